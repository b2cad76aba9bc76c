-- `ring::borders::has_single` meets its contract. The loop's invariant: none of the first faces passes.
-- Assumes nothing.
use Rattle.walk.specs.Faces.{face_at}
use Rattle.ring.specs.Clauses.Marking.{single, some_point}
use Rattle.ring.proofs.TurnLaws.{NoneOf}
use Rattle.ring.proofs.borders.has_single.Given as goal

abbrev pub invariant-loop-k : goal.invariant-loop-k
invariant-loop-k l =
    NoneOf (λ k. some_point (single l.extent.v l.extent.f l.w l.x) (face_at l.w k)) l.w l.base l.k-index
