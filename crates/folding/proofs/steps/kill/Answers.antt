-- `folding::steps::kill` meets its contract. The loop's invariant: the first `i` slots have had their turn, and those of them that hold x are counted.
-- Assumes nothing.
use Prim.Native.Nat.{◌<◌}
use native.Mathlib.Nat.{le_antisymm}
use native.Mathlib.Omega.{arith}
use mathlib.Core.Path.{ap, ◌∙◌}
use Rattle.walk.specs.Faces.{holds}
use Rattle.ring.proofs.TurnLaws.{tally-none, tally-few, tally-more}
use Rattle.folding.proofs.TurnLaws.{turn-start, turn-slot, turn_inside, turn-next, turn_end}
use Rattle.folding.proofs.KillLaws.{face-flags, killed-but}
use Rattle.folding.proofs.steps.kill.Goals as goal
use Rattle.folding.proofs.steps.kill.Goals.{After-slot_at-k, then-kill_face, else-kill_face}

-- ---- a turn
-- the slot is one of f
inside : (c : After-slot_at-k) → c.slot_at-k.result < c.args.f
inside c = turn_inside (omega arith) c.slot_at-k.ensures c.loop-i.invariant.0 (omega arith) c.requires.fact_1

pub loop-i-init : goal.loop-i-init
loop-i-init c = (turn-start, tally-none _ _ _)

-- ---- the needs
pub kill_face-requires : goal.kill_face-requires
kill_face-requires c = omega (arith, inside (goal.at.kill_face-requires c).After-slot_at-k)

pub overflow_add-gone : goal.overflow_add-gone
overflow_add-gone c = omega (arith, tally-few c.loop-i.invariant.1)

pub loop-i-preserved : goal.loop-i-preserved
loop-i-preserved c =
    let here = inside (goal.at.loop-i-preserved c).After-slot_at-k in (
      turn-next (omega arith) c.slot_at-k.ensures c.loop-i.invariant.0 (omega arith) (rw c.kill_face.ensures.killed (killed-but _ _ _ _ here)) c.kill_face.ensures.killed,
      tally-more c.loop-i.invariant.1 (turn-slot (omega arith) c.slot_at-k.ensures c.loop-i.invariant.0)
          (c.kill_face.ensures.held ∙ ap (holds c.args.x) (face-flags c.loop-i.invariant.0.but c.slot_at-k.result here))
          (elim c.if-kill_face.branch [ then-kill_face w ↦ rw w.if-kill_face.true w.gone-is | else-kill_face w ↦ rw w.if-kill_face.false (omega arith) ]),
    )

pub returns : goal.returns
returns c =
    (turn_end (omega arith) c.loop-i.invariant.0, (rw (le_antisymm c.loop-i.invariant.0.most c.loop-i-test.false) at c.loop-i.invariant.1).total)
