-- `placement::place::cheaper` meets its contract: the signed test on the two keys is the definition's. Assumes nothing.
use mathlib.Core.Path.{◌≡◌}
use mathlib.Core.Bool.{Bool, cond}
use lib.Signed.{lt_z}
use mir.Syntax.{w64}
use mir.Val.{to_z, of_z}
use Rattle.placement.specs.Places.{cheaper_choice}
use Rattle.placement.proofs.PlacementLaws.{keys-compared}
use Rattle.placement.proofs.place.cheaper.Goals as goal
use Rattle.placement.proofs.place.cheaper.Goals.{After-order-2}

-- the test of the code picks as the definition does
picked : (c : After-order-2) {t : Bool} →
    lt_z (to_z w64 (of_z w64 c.order.result)) (to_z w64 (of_z w64 c.order-2.result)) ≡ t →
    cond t c.args.second c.args.first ≡ cheaper_choice c.args.first c.args.second
picked c e =
    rw (← c.order.ensures, ← c.order-2.ensures, keys-compared c.order.result c.order-2.result c.order.type_inv c.order-2.type_inv e)

pub returns-then-order : goal.returns-then-order
returns-then-order c = picked (goal.at.returns-then-order c).After-order-2 c.if-order.true

pub returns-else-order : goal.returns-else-order
returns-else-order c = picked (goal.at.returns-else-order c).After-order-2 c.if-order.false
