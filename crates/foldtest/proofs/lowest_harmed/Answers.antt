-- `foldtest::lowest_harmed` meets its contract. The loop's invariant: what was found is the lowest of the faces so far.
-- Assumes nothing.
use Prim.Native.Nat.{◌<◌}
use native.Mathlib.Omega.{arith}
use mathlib.Core.Path.{◌≡◌}
use Rattle.lists.proofs.FrameLaws.{but-refl}
use Rattle.ring.proofs.SlotLaws.{length-part, read-part}
use Rattle.ring.proofs.TurnLaws.{next-slot}
use Rattle.foldtest.proofs.LowestLaws.{lowest_start, lowest-turn}
use Rattle.foldtest.proofs.lowest_harmed.Goals as goal
use Rattle.foldtest.proofs.lowest_harmed.Goals.{In-loop-k}

-- the slot is one of the list
inside : (c : In-loop-k) → c.loop-k.k-index < c.args.n
inside c = omega (arith, length-part c.args.w.now c.args.base c.args.n c.requires.fact_3.within)

pub loop-k-init : goal.loop-k-init
loop-k-init c = lowest_start _ _ _ _

pub lower_harmed-lowest-requires : goal.lower_harmed-lowest-requires
lower_harmed-lowest-requires c =
    let here = inside (goal.at.lower_harmed-lowest-requires c).In-loop-k in
    let next = next-slot c.requires.fact_3 (but-refl _ _ _) here (read-part _ _ _ c.requires.fact_3.within _ here) in
    record { fact_1 = omega (arith, c.requires.fact_1); fact_2 = c.requires.fact_2; fact_3 = next.inside; fact_4 = next.face_proper }

pub loop-k-preserved : goal.loop-k-preserved
loop-k-preserved c =
    let here = inside (goal.at.loop-k-preserved c).In-loop-k in
    lowest-turn c.loop-k.invariant (read-part _ _ _ c.requires.fact_3.within _ here) c.lower_harmed-lowest.ensures

pub returns : goal.returns
returns c =
    let all : c.loop-k.k-index ≡ c.args.n = omega (arith, length-part c.args.w.now c.args.base c.args.n c.requires.fact_3.within) in
    (rw all at c.loop-k.invariant).so_far
