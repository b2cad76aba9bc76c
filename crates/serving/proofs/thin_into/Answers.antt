-- `serving::thin_into` meets its contract: each part lies in its buffer, so that the single call on the parts is made.
-- Assumes nothing.
use Rattle.meaning.specs.Call.{lent}
use Rattle.serving.specs.Desks.{sources}
use Rattle.serving.proofs.OrderLaws.{thinned-into}
use Rattle.serving.proofs.thin_into.Goals as goal

pub returns : goal.returns
returns c =
    thinned-into (sources c.args.points.now c.args.faces.now c.args.margins.now) c.args.order
    (lent c.args.out_points.now c.args.out_faces.now c.args.work_u32.now c.args.work_f32.now c.args.work_f64.now) _
    c.options_of-options.ensures
    c.thin.ensures
