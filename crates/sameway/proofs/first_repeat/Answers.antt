-- `sameway::first_repeat` meets its contract. The loop's invariant: the corners at x below the link's are looked at, and no two of their edges lead to the same point.
-- The measure is how far the link is from the end. Assumes nothing.
use native.Mathlib.Omega.{arith}
use Rattle.sameway.proofs.LookLaws.{look-start, corner-within, ahead-here, end_below, look-found, look-again, look-less, look-end}
use Rattle.sameway.proofs.first_repeat.Goals as goal

pub loop-link-init : goal.loop-link-init
loop-link-init c = rw c.first_at-link.ensures (look-start c.requires.fact_1 c.requires.fact_2 c.requires.fact_3)

pub edge_end-end-requires : goal.edge_end-end-requires
edge_end-end-requires c =
    let within = corner-within c.requires.fact_1 c.loop-link.invariant c.loop-link-test.true in
    let next = ahead-here c.requires.fact_1 c.loop-link.invariant c.loop-link-test.true in
    record { fact_1 = omega (arith, c.requires.fact_1.room); fact_2 = omega (arith, c.requires.fact_1.room, c.loop-link.invariant.but.same_length) }

pub around_at-requires : goal.around_at-requires
around_at-requires c =
    omega (arith, c.edge_end-end.ensures, end_below c.requires.fact_1 c.loop-link.invariant c.loop-link-test.true, c.requires.fact_1.room, c.loop-link.invariant.but.same_length)

pub returns-then-around_at-here : goal.returns-then-around_at-here
returns-then-around_at-here c =
    look-found c.requires.fact_1 c.loop-link.invariant c.loop-link-test.true c.edge_end-end.ensures c.around_at.ensures c.if-around_at-here.true

pub set_around-requires : goal.set_around-requires
set_around-requires c =
    omega (arith, c.edge_end-end.ensures, end_below c.requires.fact_1 c.loop-link.invariant c.loop-link-test.true, c.requires.fact_1.room, c.loop-link.invariant.but.same_length)

pub next_at-link-requires : goal.next_at-link-requires
next_at-link-requires c =
    omega (arith, corner-within c.requires.fact_1 c.loop-link.invariant c.loop-link-test.true, c.requires.fact_1.room, c.loop-link.invariant.but.same_length)

pub loop-link-smaller : goal.loop-link-smaller
loop-link-smaller c =
    look-less c.requires.fact_1 c.loop-link.invariant c.loop-link-test.true c.edge_end-end.ensures c.around_at.ensures c.if-around_at-here.false
    c.set_around.ensures c.next_at-link.ensures

pub loop-link-preserved : goal.loop-link-preserved
loop-link-preserved c =
    look-again c.requires.fact_1 c.loop-link.invariant c.loop-link-test.true c.edge_end-end.ensures c.around_at.ensures c.if-around_at-here.false
    c.set_around.ensures c.next_at-link.ensures

pub overflow_mul-result : goal.overflow_mul-result
overflow_mul-result c = record { fits = omega (arith, c.requires.fact_1.room) }

pub returns : goal.returns
returns c = look-end c.requires.fact_1 c.loop-link.invariant c.loop-link-test.false
