-- `probes::vertex_from` meets its contract. Assumes nothing.
use Rattle.probes.proofs.vertex_from.Goals as goal

pub returns : goal.returns
returns c = rw (c.point_from.ensures, c.quadric_from.ensures)
