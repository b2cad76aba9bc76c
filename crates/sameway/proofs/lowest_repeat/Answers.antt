-- `sameway::lowest_repeat` meets its contract. The loop's invariant: of the edges from points below `x` those of corners below the lowest are new.
-- Assumes nothing.
use native.Mathlib.Omega.{arith}
use Rattle.lists.proofs.FrameLaws.{but-then}
use Rattle.sameway.proofs.LowestLaws.{still-ordered, cleared, lowest_start, lowest-turn, lowest-end}
use Rattle.sameway.proofs.lowest_repeat.Goals as goal

pub fill-requires : goal.fill-requires
fill-requires c = rw c.around_from.ensures (omega (arith, c.requires.room))

pub overflow_mul-lowest : goal.overflow_mul-lowest
overflow_mul-lowest c = record { fits = omega (arith, c.requires.room) }

pub loop-x-init : goal.loop-x-init
loop-x-init c = lowest_start c.around_from.ensures c.fill.ensures

pub first_repeat-requires : goal.first_repeat-requires
first_repeat-requires c =
    let but = but-then (cleared c.args.extent.v c.args.extent.f c.around_from.ensures c.fill.ensures) c.loop-x.invariant.but in
    record { fact_1 = still-ordered c.args.extent.v c.args.extent.f c.args.w.now c.loop-x.w but c.requires; fact_2 = c.loop-x-test.true; fact_3 = c.loop-x.invariant.seen-before }

pub loop-x-preserved : goal.loop-x-preserved
loop-x-preserved c = lowest-turn c.loop-x.invariant c.first_repeat.ensures (omega arith)

pub returns : goal.returns
returns c =
    let but = cleared c.args.extent.v c.args.extent.f c.around_from.ensures c.fill.ensures in
    record { lowest = lowest-end but c.requires c.loop-x.invariant c.loop-x-test.false; but = but-then but c.loop-x.invariant.but }
