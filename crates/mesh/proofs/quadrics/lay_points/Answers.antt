-- `mesh::quadrics::lay_points` meets its contract: the list is as long as the points' cells. Assumes nothing.
use mathlib.Core.Path.{◌∙◌}
use Rattle.mesh.proofs.QuadricLaws.{points-copied}
use Rattle.mesh.proofs.quadrics.lay_points.Goals as goal

pub returns : goal.returns
returns c =
    c.copy.ensures ∙ points-copied c.args.v c.args.points.now c.args.p.now c.requires.fact_1
