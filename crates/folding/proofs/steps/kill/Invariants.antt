-- `folding::steps::kill` meets its contract. The loop's invariant: the first `i` slots have had their turn, and those of them that hold x are counted.
-- Assumes nothing.
use Prim.Native.Nat.{◌*◌}
use Rattle.walk.specs.Faces.{holds, face_at}
use Rattle.ring.proofs.TurnLaws.{Tally}
use Rattle.folding.specs.Clauses.Steps.{killed}
use Rattle.folding.proofs.TurnLaws.{Turning}
use Rattle.folding.proofs.steps.kill.Given as goal

abbrev pub invariant-loop-i : goal.invariant-loop-i
invariant-loop-i l =
    Turning (killed l.f l.x) (3 * l.f) (4 * l.f) l.initial.w l.list l.n l.i l.w × Tally (λ k. holds l.x (face_at l.initial.w k)) l.initial.w l.list l.i l.gone
