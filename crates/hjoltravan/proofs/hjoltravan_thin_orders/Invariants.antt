-- `hjoltravan::hjoltravan_thin_orders`: at each turn the orders before the one at hand are done, one after another, from what was lent. Assumes nothing.
use Rattle.meaning.specs.Call.{lent}
use Rattle.serving.specs.Desks.{sources, desk}
use Rattle.serving.specs.Clauses.{OrdersDone}
use Rattle.hjoltravan.proofs.hjoltravan_thin_orders.Given as goal

abbrev pub invariant-loop-place : goal.invariant-loop-place
invariant-loop-place l =
    OrdersDone (sources l.points l.faces l.margins) l.orders
    (desk (lent l.initial.out_points l.initial.out_faces l.initial.work_u32 l.initial.work_f32 l.initial.work_f64) l.initial.answers l.initial.closed) l.place
    (desk (lent l.out_points l.out_faces l.work_u32 l.work_f32 l.work_f64) l.answers l.closed)
