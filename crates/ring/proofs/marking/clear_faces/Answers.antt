-- `ring::marking::clear_faces` meets its contract. The loop's invariant: the contract holds of the first `i` faces of the list.
-- Assumes nothing.
use native.Mathlib.Nat.{le_antisymm}
use native.Mathlib.Omega.{arith}
use Rattle.ring.proofs.TurnLaws.{Next, next-slot, cleared-none, cleared_more}
use Rattle.ring.proofs.marking.clear_faces.Goals as goal
use Rattle.ring.proofs.marking.clear_faces.Goals.{After-slot_at-k}

next : (c : After-slot_at-k) →
    Next c.args.extent.v c.args.extent.f c.args.w.now c.loop-i.w c.args.base c.loop-i.i c.slot_at-k.result
next c = next-slot c.requires.fact_2 c.loop-i.invariant.but c.loop-i-test.true c.slot_at-k.ensures

pub loop-i-init : goal.loop-i-init
loop-i-init c = cleared-none _ _ _ _

-- ---- the needs
pub clear_face-requires : goal.clear_face-requires
clear_face-requires c = record { fact_1 = omega arith; fact_2 = (next (goal.at.clear_face-requires c).After-slot_at-k).inside; fact_3 = (next (goal.at.clear_face-requires c).After-slot_at-k).face_proper }

pub loop-i-preserved : goal.loop-i-preserved
loop-i-preserved c =
    cleared_more (next (goal.at.loop-i-preserved c).After-slot_at-k) c.loop-i.invariant c.clear_face.ensures

pub returns : goal.returns
returns c = rw (le_antisymm c.loop-i.auto.i-end c.loop-i-test.false) at c.loop-i.invariant
