-- `queue::order::move_entry` meets its contract: what was read is written.
-- Assumes nothing.
use Rattle.queue.proofs.order.move_entry.Goals as goal

pub returns : goal.returns
returns c = rw (← c.entry_at-entry.ensures) c.set_entry.ensures
