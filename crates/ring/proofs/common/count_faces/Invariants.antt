-- `ring::common::count_faces` meets its contract. The loop's invariant: the contract holds of the first `i` faces of the list.
-- Assumes nothing.
use Rattle.ring.specs.Clauses.Counting.{Counted}
use Rattle.ring.specs.Clauses.Marking.{held_in}
use Rattle.ring.proofs.common.count_faces.Given as goal

abbrev pub invariant-loop-i : goal.invariant-loop-i
invariant-loop-i l = Counted l.extent.v l.extent.f l.keep l.remove (held_in l.initial.w l.base l.i) l.initial.w l.w l.r
