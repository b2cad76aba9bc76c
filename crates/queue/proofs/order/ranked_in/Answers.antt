-- `queue::order::ranked_in` meets its contract: each part is what was read of it.
-- Assumes nothing.
use mathlib.Core.Path.{ap}
use Rattle.walk.specs.declared.Pair.{Pair}
use Rattle.queue.proofs.KeyLaws.{ranked-path}
use Rattle.queue.proofs.order.ranked_in.Goals as goal

pub returns : goal.returns
returns c =
    ranked-path c.cost_at.ensures (ap (λ (x : Pair). x.keep) c.entry_pair-pair.ensures) (ap (λ (x : Pair). x.remove) c.entry_pair-pair.ensures)
