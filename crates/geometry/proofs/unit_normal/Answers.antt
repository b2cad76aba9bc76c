-- `geometry::unit_normal` meets its contract: the normal over its norm, from what the three calls ensure. Assumes nothing.
use Rattle.geometry.specs.Planes.{unit_normal}
use Rattle.geometry.proofs.unit_normal.Goals as goal

pub normal-n-requires : goal.normal-n-requires
normal-n-requires c = tt

pub norm-requires : goal.norm-requires
norm-requires c = tt

pub over-requires : goal.over-requires
over-requires c = tt

pub returns : goal.returns
unfolding unit_normal
returns c = rw (c.over.ensures, c.norm.ensures, c.normal-n.ensures)
