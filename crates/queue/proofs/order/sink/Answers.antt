-- `queue::order::sink` meets its contract. The loop's invariant: the entries are in another order, and make a heap but that the one of the hole may
-- come after those under it. The measure is how many places are under it. Assumes nothing.
use Prim.Native.Nat.{◌<◌}
use native.Mathlib.Omega.{arith}
use mathlib.Core.Logic.{◌≢◌}
use Rattle.queue.proofs.HeapLaws.{sinking-done, sinking-stop}
use Rattle.queue.proofs.HoleLaws.{moving-start, moving-turn, sinking-hole, sinking-moved, lowest-filled, there-lower, there-above, sunk}
use mathlib.Core.Path.{ap}
use mathlib.Core.Bool.{not}
use Rattle.queue.proofs.order.sink.Goals as goal
use Rattle.queue.proofs.order.sink.Goals.{After-comes_first, At-loop-hole}

-- a place times four fits
fits : (c : At-loop-hole) → c.loop-hole.hole < 1000000
fits c =
    omega (arith, c.loop-hole.invariant.0.inside, c.loop-hole.invariant.0.enough.room.faces_few)

-- the place under the hole is another
apart : (c : After-comes_first) → c.least_under-first.result ≢ c.loop-hole.hole
apart c e = absurd (omega (arith, c.least_under-first.ensures.positive, c.least_under-first.ensures.under))

pub loop-hole-init : goal.loop-hole-init
loop-hole-init c =
    (moving-start c.args.entry c.requires.fact_1.few c.requires.fact_1.inside c.requires.fact_1.enough, sinking-hole c.args.extent.v c.args.extent.f c.args.lo c.args.w.now c.args.p.now c.args.q.now c.args.entry c.requires.fact_2)

pub overflow_mul-hole : goal.overflow_mul-hole
overflow_mul-hole c = omega (arith, fits (goal.at.overflow_mul-hole c).At-loop-hole)

pub overflow_add-hole : goal.overflow_add-hole
overflow_add-hole c = omega (arith, fits (goal.at.overflow_add-hole c).At-loop-hole)

pub least_under-first-requires : goal.least_under-first-requires
least_under-first-requires c =
    record { fact_1 = c.loop-hole.invariant.0.few; fact_2 = c.loop-hole.invariant.0.enough.room; fact_3 = c.loop-hole.invariant.0.enough.costs_long; fact_4 = c.loop-hole-test.true }

pub ranked_in-requires : goal.ranked_in-requires
ranked_in-requires c =
    record { fact_1 = omega (arith, c.loop-hole.invariant.0.few, c.least_under-first.ensures.within); fact_2 = c.loop-hole.invariant.0.enough.room; fact_3 = c.loop-hole.invariant.0.enough.costs_long }

pub shape_of-w-then-not-comes_first : goal.shape_of-w-then-not-comes_first
shape_of-w-then-not-comes_first c = c.loop-hole.invariant.0.only.but.same_length

pub shape_of-p-then-not-comes_first : goal.shape_of-p-then-not-comes_first
shape_of-p-then-not-comes_first c = c.loop-hole.invariant.0.only.points_but.same_length

pub shape_of-q-then-not-comes_first : goal.shape_of-q-then-not-comes_first
shape_of-q-then-not-comes_first c = c.loop-hole.invariant.0.only.quadrics_but.same_length

pub returns-then-not-comes_first : goal.returns-then-not-comes_first
returns-then-not-comes_first c =
    sunk c.loop-hole.invariant.0
    (sinking-stop c.loop-hole.invariant.1
    (lowest-filled c.args.extent.v c.args.extent.f c.loop-hole.w c.loop-hole.p c.loop-hole.q c.loop-hole.hole c.args.entry c.least_under-first.ensures)
    (there-above c.args.extent.v c.args.extent.f c.loop-hole.w c.loop-hole.p c.loop-hole.q c.loop-hole.hole c.args.entry (apart (goal.at.returns-then-not-comes_first c).After-comes_first)
    c.ranked_of.ensures c.ranked_in.ensures c.comes_first.ensures (ap not c.if-not-comes_first.true)))

pub move_entry-requires : goal.move_entry-requires
move_entry-requires c =
    record { fact_1 = omega (arith, c.loop-hole.invariant.0.few, c.least_under-first.ensures.within); fact_2 = c.loop-hole.invariant.0.inside; fact_3 = c.loop-hole.invariant.0.enough }

pub loop-hole-smaller : goal.loop-hole-smaller
loop-hole-smaller c =
    omega (arith, c.least_under-first.ensures.within, c.least_under-first.ensures.positive, c.least_under-first.ensures.under)

pub loop-hole-preserved : goal.loop-hole-preserved
loop-hole-preserved c =
    let lower = there-lower c.args.extent.v c.args.extent.f c.loop-hole.w c.loop-hole.p c.loop-hole.q c.loop-hole.hole c.args.entry (apart (goal.at.loop-hole-preserved c).After-comes_first)
    c.ranked_of.ensures c.ranked_in.ensures c.comes_first.ensures
    (ap not c.if-not-comes_first.false) in (
      moving-turn c.args.entry (apart (goal.at.loop-hole-preserved c).After-comes_first) c.move_entry.ensures (omega arith) c.least_under-first.ensures.within c.loop-hole.invariant.0,
      sinking-moved c.args.entry (apart (goal.at.loop-hole-preserved c).After-comes_first) c.move_entry.ensures c.loop-hole.invariant.1
          (lowest-filled c.args.extent.v c.args.extent.f c.loop-hole.w c.loop-hole.p c.loop-hole.q c.loop-hole.hole c.args.entry c.least_under-first.ensures) (omega (arith, lower)),
    )

pub shape_of-w : goal.shape_of-w
shape_of-w c = c.loop-hole.invariant.0.only.but.same_length

pub shape_of-p : goal.shape_of-p
shape_of-p c = c.loop-hole.invariant.0.only.points_but.same_length

pub shape_of-q : goal.shape_of-q
shape_of-q c = c.loop-hole.invariant.0.only.quadrics_but.same_length

pub returns : goal.returns
returns c =
    sunk c.loop-hole.invariant.0 (sinking-done c.loop-hole.invariant.1 (λ k positive inside under. absurd (omega (arith, c.loop-hole-test.false))))
