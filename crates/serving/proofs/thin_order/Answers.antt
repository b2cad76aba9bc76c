-- `serving::thin_order` meets its contract: the order's parts lie in the outputs, what the single call leaves stands in their place, and its answer is told.
-- Assumes nothing.
use Rattle.meaning.specs.Call.{lent}
use Rattle.serving.specs.Desks.{sources}
use Rattle.serving.proofs.OrderLaws.{order-done}
use Rattle.serving.proofs.thin_order.Goals as goal

pub tell_at-requires : goal.tell_at-requires
tell_at-requires c =
    record { five_fit = c.requires.answer; three_fit = c.requires.closed }

pub returns : goal.returns
returns c =
    order-done (sources c.args.points.now c.args.faces.now c.args.margins.now) c.args.order c.args.place
    (lent c.args.out_points.now c.args.out_faces.now c.args.work_u32.now c.args.work_f32.now c.args.work_f64.now) _
    c.thin_into-r.ensures
    (record {
      points = c.out_points-1.given.0;
      faces = c.out_faces-1.given.0;
      u32s = c.work_u32-1.given;
      f32s = c.work_f32-1.given;
      f64s = c.work_f64-1.given;
    })
    c.tell_at.ensures
