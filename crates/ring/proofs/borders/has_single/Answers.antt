-- `ring::borders::has_single` meets its contract. The loop's invariant: none of the faces so far passes.
-- Assumes nothing.
use Prim.Native.Nat.{◌<◌}
use native.Mathlib.Omega.{arith}
use mathlib.Core.Path.{◌≡◌, sym}
use Rattle.lists.proofs.FrameLaws.{but-refl}
use Rattle.ring.proofs.SlotLaws.{length-part, read-part}
use Rattle.ring.proofs.TurnLaws.{next-slot, none_yet, none_more, one_found}
use Rattle.ring.proofs.borders.has_single.Goals as goal
use Rattle.ring.proofs.borders.has_single.Goals.{In-loop-k}

-- the slot is one of the list
inside : (c : In-loop-k) → c.loop-k.k-index < c.args.n
inside c = omega (arith, length-part c.args.w.now c.args.base c.args.n c.requires.fact_2.within)

pub loop-k-init : goal.loop-k-init
loop-k-init c = none_yet _ _ _

pub face_has_single-requires : goal.face_has_single-requires
face_has_single-requires c =
    let here = inside (goal.at.face_has_single-requires c).In-loop-k in
    let next = next-slot c.requires.fact_2 (but-refl _ _ _) here (read-part _ _ _ c.requires.fact_2.within _ here) in
    record { fact_1 = c.requires.fact_1; fact_2 = next.inside; fact_3 = next.face_proper }

pub returns-then-face_has_single : goal.returns-then-face_has_single
returns-then-face_has_single c =
    let here = inside (goal.at.returns-then-face_has_single c).In-loop-k in
    one_found c.loop-k.invariant (read-part _ _ _ c.requires.fact_2.within _ here) c.face_has_single.ensures here c.if-face_has_single.true

pub loop-k-preserved : goal.loop-k-preserved
loop-k-preserved c =
    let here = inside (goal.at.loop-k-preserved c).In-loop-k in
    none_more c.loop-k.invariant (read-part _ _ _ c.requires.fact_2.within _ here) c.face_has_single.ensures c.if-face_has_single.false

pub returns : goal.returns
returns c =
    let all : c.loop-k.k-index ≡ c.args.n = omega (arith, length-part c.args.w.now c.args.base c.args.n c.requires.fact_2.within) in
    sym (rw all at c.loop-k.invariant).none
