-- `ring::common::shared_count` meets its contract. The loop's invariant: `r` of the faces so far hold y.
-- Assumes nothing.
use Prim.Native.Nat.{◌<◌}
use native.Mathlib.Omega.{arith}
use mathlib.Core.Path.{◌≡◌, ap, ◌∙◌}
use Rattle.walk.specs.Faces.{holds}
use Rattle.ring.proofs.SlotLaws.{length-part, read-part, slot_small}
use Rattle.ring.proofs.TurnLaws.{tally-none, tally-few, tally-more}
use Rattle.ring.proofs.common.shared_count.Goals as goal
use Rattle.ring.proofs.common.shared_count.Goals.{In-loop-k, then-holds, else-holds}

-- the slot is one of the list
inside : (c : In-loop-k) → c.loop-k.k-index < c.args.n
inside c = omega (arith, length-part c.args.w.now c.args.base c.args.n c.requires.fact_2)

pub loop-k-init : goal.loop-k-init
loop-k-init c = tally-none _ _ _

pub face_in-requires : goal.face_in-requires
face_in-requires c =
    let here = inside (goal.at.face_in-requires c).In-loop-k in
    omega (arith, read-part _ _ _ c.requires.fact_2 _ here, slot_small c.args.f c.args.w.now c.args.base c.args.n c.requires.fact_3 c.loop-k.k-index here)

pub overflow_add-r : goal.overflow_add-r
overflow_add-r c = omega (arith, tally-few c.loop-k.invariant)

pub loop-k-preserved : goal.loop-k-preserved
loop-k-preserved c =
    let here = inside (goal.at.loop-k-preserved c).In-loop-k in
    tally-more c.loop-k.invariant (read-part _ _ _ c.requires.fact_2 _ here) (c.holds.ensures ∙ ap (holds c.args.y) c.face_in.ensures)
    (elim c.if-holds.branch [ then-holds w ↦ rw w.if-holds.true w.r-is | else-holds w ↦ rw w.if-holds.false (omega arith) ])

pub returns : goal.returns
returns c =
    let all : c.loop-k.k-index ≡ c.args.n = omega (arith, length-part c.args.w.now c.args.base c.args.n c.requires.fact_2) in
    (rw all at c.loop-k.invariant).total
