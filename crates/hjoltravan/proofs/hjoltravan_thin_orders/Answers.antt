-- `hjoltravan::hjoltravan_thin_orders` meets its contract: a call that is refused as a whole leaves all as it was; else the orders are done one after
-- another, each of which fits, and so all are served. Assumes nothing.
use Rattle.std.proofs.Common.{arith, le_antisymm, ◌∙◌, sym}
use Rattle.serving.specs.Desks.{sources}
use Rattle.serving.specs.Clauses.{none_yet}
use Rattle.hjoltravan.proofs.ServedLaws.{ready, ready-next, called-turned-away, called-served}
use Rattle.hjoltravan.proofs.hjoltravan_thin_orders.Goals as goal

pub returns-then-refused : goal.returns-then-refused
returns-then-refused c = called-turned-away c.args.orders.now _ _ (sym c.refused.ensures ∙ c.if-refused.true)

pub loop-place-init : goal.loop-place-init
loop-place-init c = none_yet

pub thin_order-requires : goal.thin_order-requires
thin_order-requires c =
    ready c.args.orders.now (sources c.args.points.now c.args.faces.now c.args.margins.now) _ (sym c.refused.ensures ∙ c.if-refused.false) (omega arith) c.loop-place.invariant

pub loop-place-preserved : goal.loop-place-preserved
loop-place-preserved c =
    ready-next c.args.orders.now (sources c.args.points.now c.args.faces.now c.args.margins.now) _ (omega arith) c.loop-place.invariant c.thin_order.ensures

pub returns : goal.returns
returns c =
    called-served c.args.orders.now (sources c.args.points.now c.args.faces.now c.args.margins.now) (sym c.refused.ensures ∙ c.if-refused.false)
    (rw (le_antisymm c.loop-place.auto.place-end (omega arith)) at c.loop-place.invariant)
