-- `ring::common::shared_count` meets its contract. The loop's invariant: `r` of the first faces hold y.
-- Assumes nothing.
use Rattle.walk.specs.Faces.{holds, face_at}
use Rattle.ring.proofs.TurnLaws.{Tally}
use Rattle.ring.proofs.common.shared_count.Given as goal

abbrev pub invariant-loop-k : goal.invariant-loop-k
invariant-loop-k l = Tally (λ k. holds l.y (face_at l.w k)) l.w l.base l.k-index l.r
