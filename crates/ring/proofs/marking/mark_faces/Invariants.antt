-- `ring::marking::mark_faces` meets its contract. The loop's invariant: the contract holds of the first `i` faces of the list.
-- Assumes nothing.
use Rattle.mesh.specs.Clauses.Around.{Marked}
use Rattle.ring.proofs.marking.mark_faces.Given as goal

abbrev pub invariant-loop-i : goal.invariant-loop-i
invariant-loop-i l = Marked l.extent.v l.extent.f l.initial.w l.base l.i l.w
