-- `plainwalk::walk_on` meets its contract. The loop's invariant: the memory holds the state that the plain walk comes to in some number of steps, the
-- folds made on the way are written down, and the pairs closed on it are counted by reason. The measure is the plain walk's budget. Assumes nothing.
use Rattle.walk.specs.Walk.{budget}
use Rattle.openpairs.specs.State.{state_of}
use Rattle.plainwalk.specs.Moments.{moment}
use Rattle.plainwalk.proofs.CountLaws.{Counting}
use Rattle.plainwalk.proofs.WalkLaws.{plain}
use Rattle.plainwalk.proofs.walk_on.Given as goal

abbrev pub invariant-loop-pair : goal.invariant-loop-pair
invariant-loop-pair l =
    Counting (plain l.extent.v l.extent.f) l.target l.bounds.limit l.bounds.size (moment l.initial.w l.initial.p l.initial.q l.open l.live) (moment l.w l.p l.q l.pairs_open l.faces_live) l.folds l.closed

abbrev pub decreases-loop-pair : goal.decreases-loop-pair
decreases-loop-pair l = budget l.extent.f (state_of l.extent.v l.extent.f l.w l.p l.q l.pairs_open)
