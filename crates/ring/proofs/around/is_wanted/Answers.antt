-- `ring::around::is_wanted` meets its contract: each way is one clause of the definition.
-- Assumes nothing.
use Rattle.ring.proofs.around.is_wanted.Goals as goal

pub returns-in-Rising : goal.returns-in-Rising
returns-in-Rising c = rw (c.in-Rising.is, c.runs.ensures)

pub returns-in-Every : goal.returns-in-Every
returns-in-Every c = rw c.in-Every.is
