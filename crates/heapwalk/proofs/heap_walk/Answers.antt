-- `heapwalk::heap_walk` meets its contract: once the first pairs are in the queue the memory holds the start, and the walk from there is a chain.
-- Assumes nothing.
use mathlib.Core.Path.{refl}
use Rattle.heapwalk.proofs.HoldLaws.{start-holds}
use Rattle.heapwalk.proofs.heap_walk.Goals as goal

pub walk_on-requires : goal.walk_on-requires
walk_on-requires c =
    start-holds c.args.bounds.limit c.args.bounds.size c.requires.fact_1 c.requires.fact_2 c.enter_start-entries.ensures

pub returns : goal.returns
returns c =
    record { first = _; all_live = refl; start = c.enter_start-entries.ensures; chain = c.walk_on.ensures }
