-- `orders::refused` meets its contract: there are too many orders, or the one at hand is bad, or none is. Assumes nothing.
use Rattle.std.proofs.Common.{sym, ◌∙◌, le_antisymm, arith}
use Rattle.orders.proofs.BeforeLaws.{some-none, none-next, many-refused, bad-refused, none-refused, misplaced-bad, clashing-bad, good-at}
use Rattle.orders.proofs.refused.Goals as goal
use Rattle.orders.proofs.refused.Goals.{then-misplaced-via-then-misplaced, then-misplaced-via-else-misplaced+then-clashes}

pub returns-then-too_many : goal.returns-then-too_many
returns-then-too_many c = many-refused c.args.orders.now c.args.cells (sym c.too_many.ensures ∙ c.if-too_many.true)

pub loop-place-init : goal.loop-place-init
loop-place-init c = some-none _

pub returns-then-misplaced : goal.returns-then-misplaced
returns-then-misplaced c =
    bad-refused c.args.orders.now c.args.cells c.loop-place.place c.loop-place-test.true
    (elim c.then-misplaced.branch [
      | then-misplaced-via-then-misplaced w ↦
          misplaced-bad c.args.orders.now c.args.cells c.loop-place.place _ c.loop-place-test.true (sym c.misplaced.ensures ∙ w.if-misplaced.true)
      | then-misplaced-via-else-misplaced+then-clashes w ↦ clashing-bad c.args.orders.now c.args.cells c.loop-place.place (sym w.clashes.ensures ∙ w.if-clashes.true)
    ])

pub loop-place-preserved : goal.loop-place-preserved
loop-place-preserved c =
    none-next _ c.loop-place.place c.loop-place.invariant
    (good-at c.args.orders.now c.args.cells c.loop-place.place _ c.loop-place-test.true (sym c.misplaced.ensures ∙ c.if-misplaced.false) (sym c.clashes.ensures ∙ c.if-clashes.false))

pub returns : goal.returns
returns c =
    none-refused c.args.orders.now c.args.cells (sym c.too_many.ensures ∙ c.if-too_many.false)
    (rw (le_antisymm c.loop-place.auto.place-end (omega arith)) at c.loop-place.invariant)
