-- `memory::points::vertex_at` meets its contract: the quadric that is read is the point's own.
-- Assumes nothing.
use mathlib.Core.Path.{ap, ◌∙◌}
use Rattle.memory.specs.Points.{vertex_with}
use Rattle.memory.proofs.points.vertex_at.Goals as goal

pub returns : goal.returns
returns c =
    c.vertex_with.ensures ∙ ap (vertex_with c.args.extent.v c.args.extent.f c.args.w.now c.args.p.now c.args.x) c.quadric_at.ensures
