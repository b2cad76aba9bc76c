-- `ring::common::count_faces` meets its contract. The loop's invariant: the contract holds of the first `i` faces of the list.
-- Assumes nothing.
use native.Mathlib.Nat.{le_antisymm}
use native.Mathlib.Omega.{arith}
use Rattle.ring.proofs.TurnLaws.{Next, next-slot}
use Rattle.ring.proofs.CommonLaws.{counted-few, counted_none, counted-more}
use Rattle.ring.proofs.common.count_faces.Goals as goal
use Rattle.ring.proofs.common.count_faces.Goals.{After-slot_at-k}

next : (c : After-slot_at-k) →
    Next c.args.extent.v c.args.extent.f c.args.w.now c.loop-i.w c.args.base c.loop-i.i c.slot_at-k.result
next c = next-slot c.requires.fact_2 c.loop-i.invariant.remarked.but c.loop-i-test.true c.slot_at-k.ensures

pub loop-i-init : goal.loop-i-init
loop-i-init c = counted_none _ _

-- ---- the needs
pub count_face-r-requires : goal.count_face-r-requires
count_face-r-requires c = record { fact_1 = omega arith; fact_2 = (next (goal.at.count_face-r-requires c).After-slot_at-k).inside; fact_3 = (next (goal.at.count_face-r-requires c).After-slot_at-k).face_proper }

pub overflow_add-r : goal.overflow_add-r
overflow_add-r c =
    omega (arith, c.requires.fact_1, counted-few c.loop-i.invariant, counted-few c.count_face-r.ensures)

pub loop-i-preserved : goal.loop-i-preserved
loop-i-preserved c =
    counted-more (next (goal.at.loop-i-preserved c).After-slot_at-k) c.loop-i.invariant c.count_face-r.ensures

pub returns : goal.returns
returns c = rw (le_antisymm c.loop-i.auto.i-end c.loop-i-test.false) at c.loop-i.invariant
