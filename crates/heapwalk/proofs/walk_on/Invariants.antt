-- `heapwalk::walk_on` meets its contract. The loop's invariant: a chain of steps leads from the start to the memory as it is, the folds
-- told on it are written down, and the reasons told on it are counted. When old entries are thrown out, it doesn't say. The measure is the plain walk's
-- budget. Assumes nothing.
use Rattle.walk.specs.Walk.{budget}
use Rattle.queue.specs.State.{heap_state}
use Rattle.plainwalk.specs.Moments.{moment}
use Rattle.heapwalk.proofs.ChainLaws.{Chaining}
use Rattle.heapwalk.proofs.walk_on.Given as goal

abbrev pub invariant-loop-pair : goal.invariant-loop-pair
invariant-loop-pair l =
    Chaining l.extent.v l.extent.f l.target l.bounds.limit l.bounds.size (moment l.initial.w l.initial.p l.initial.q l.entries l.live) (moment l.w l.p l.q l.queued l.faces_live) l.folds l.closed

abbrev pub decreases-loop-pair : goal.decreases-loop-pair
decreases-loop-pair l = budget l.extent.f (heap_state l.extent.v l.extent.f l.w l.p l.q l.queued)
