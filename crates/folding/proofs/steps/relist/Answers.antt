-- `folding::steps::relist` meets its contract. The loop's invariant: the first `i` slots have had their turn.
-- Assumes nothing.
use Prim.Native.Nat.{◌<◌}
use native.Mathlib.Omega.{arith}
use Rattle.folding.proofs.TurnLaws.{turn-start, turn_inside, turn-next, turn_end}
use Rattle.folding.proofs.RelistLaws.{relisted-but}
use Rattle.folding.proofs.steps.relist.Goals as goal
use Rattle.folding.proofs.steps.relist.Goals.{After-slot_at-k}

-- the slot is one of f
inside : (c : After-slot_at-k) → c.slot_at-k.result < c.args.f
inside c = turn_inside (omega arith) c.slot_at-k.ensures c.loop-i.invariant (omega arith) c.requires.fact_1

pub loop-i-init : goal.loop-i-init
loop-i-init c = turn-start

pub relist_face-requires : goal.relist_face-requires
relist_face-requires c = omega (arith, inside (goal.at.relist_face-requires c).After-slot_at-k)

pub loop-i-preserved : goal.loop-i-preserved
loop-i-preserved c =
    turn-next (omega arith) c.slot_at-k.ensures c.loop-i.invariant (omega arith) (rw c.relist_face.ensures (relisted-but _ _ _ _ _ (inside (goal.at.loop-i-preserved c).After-slot_at-k) (omega arith))) c.relist_face.ensures

pub returns : goal.returns
returns c = turn_end (omega arith) c.loop-i.invariant
