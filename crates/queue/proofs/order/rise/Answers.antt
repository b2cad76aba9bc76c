-- `queue::order::rise` meets its contract. The loop's invariant: the entries are in another order, and make a heap but that the one of the hole may
-- come before the one over it. The measure is the hole. Assumes nothing.
use native.Mathlib.Omega.{arith}
use mathlib.Core.Logic.{◌≢◌}
use Rattle.queue.specs.Clauses.Ranks.{over}
use Rattle.queue.proofs.HeapLaws.{rising-done}
use Rattle.queue.proofs.HoleLaws.{moving-start, moving-turn, rising-hole, rising-moved, own-lower, own-above, sunk}
use mathlib.Core.Path.{ap}
use mathlib.Core.Bool.{not}
use Rattle.queue.proofs.order.rise.Goals as goal
use Rattle.queue.proofs.order.rise.Goals.{After-comes_first}

-- the place over the hole is another
apart : (c : After-comes_first) → over c.loop-hole.hole ≢ c.loop-hole.hole
apart c e = absurd (omega arith)

pub loop-hole-init : goal.loop-hole-init
loop-hole-init c =
    (moving-start c.args.entry (omega (arith, c.requires.fact_1.inside)) c.requires.fact_1.inside c.requires.fact_1.enough, rising-hole c.args.extent.v c.args.extent.f c.args.n c.args.w.now c.args.p.now c.args.q.now c.args.entry c.requires.fact_2)

pub ranked_in-requires : goal.ranked_in-requires
ranked_in-requires c =
    record { fact_1 = omega (arith, c.loop-hole.invariant.0.inside); fact_2 = c.loop-hole.invariant.0.enough.room; fact_3 = c.loop-hole.invariant.0.enough.costs_long }

pub shape_of-w-then-not-comes_first : goal.shape_of-w-then-not-comes_first
shape_of-w-then-not-comes_first c = c.loop-hole.invariant.0.only.but.same_length

pub shape_of-p-then-not-comes_first : goal.shape_of-p-then-not-comes_first
shape_of-p-then-not-comes_first c = c.loop-hole.invariant.0.only.points_but.same_length

pub shape_of-q-then-not-comes_first : goal.shape_of-q-then-not-comes_first
shape_of-q-then-not-comes_first c = c.loop-hole.invariant.0.only.quadrics_but.same_length

pub returns-then-not-comes_first : goal.returns-then-not-comes_first
returns-then-not-comes_first c =
    sunk c.loop-hole.invariant.0
    (rising-done c.loop-hole.invariant.1
    (λ above. own-above c.args.extent.v c.args.extent.f c.loop-hole.w c.loop-hole.p c.loop-hole.q c.loop-hole.hole c.args.entry (apart (goal.at.returns-then-not-comes_first c).After-comes_first)
    c.ranked_of.ensures c.ranked_in.ensures c.comes_first.ensures (ap not c.if-not-comes_first.true)))

pub move_entry-requires : goal.move_entry-requires
move_entry-requires c =
    record { fact_1 = omega (arith, c.loop-hole.invariant.0.inside); fact_2 = c.loop-hole.invariant.0.inside; fact_3 = c.loop-hole.invariant.0.enough }

pub loop-hole-smaller : goal.loop-hole-smaller
loop-hole-smaller c = omega arith

pub loop-hole-preserved : goal.loop-hole-preserved
loop-hole-preserved c =
    let lower = own-lower c.args.extent.v c.args.extent.f c.loop-hole.w c.loop-hole.p c.loop-hole.q c.loop-hole.hole c.args.entry (apart (goal.at.loop-hole-preserved c).After-comes_first)
    c.ranked_of.ensures c.ranked_in.ensures c.comes_first.ensures
    (ap not c.if-not-comes_first.false) in (
      moving-turn c.args.entry (apart (goal.at.loop-hole-preserved c).After-comes_first) c.move_entry.ensures c.loop-hole.invariant.1.within (omega arith) c.loop-hole.invariant.0,
      rising-moved c.args.entry (apart (goal.at.loop-hole-preserved c).After-comes_first) c.move_entry.ensures c.loop-hole.invariant.1 (omega arith) (λ t. over c.loop-hole.hole) lower,
    )

pub shape_of-w : goal.shape_of-w
shape_of-w c = c.loop-hole.invariant.0.only.but.same_length

pub shape_of-p : goal.shape_of-p
shape_of-p c = c.loop-hole.invariant.0.only.points_but.same_length

pub shape_of-q : goal.shape_of-q
shape_of-q c = c.loop-hole.invariant.0.only.quadrics_but.same_length

pub returns : goal.returns
returns c =
    sunk c.loop-hole.invariant.0 (rising-done c.loop-hole.invariant.1 (λ above. absurd (omega (arith, c.loop-hole-test.false))))
