-- `geometry::normal` meets its contract: the cross of two differences, from what the three calls ensure. Assumes nothing.
use Rattle.geometry.specs.Points.{normal}
use Rattle.geometry.proofs.normal.Goals as goal

pub difference-requires : goal.difference-requires
difference-requires c = tt

pub difference-requires-2 : goal.difference-requires-2
difference-requires-2 c = tt

pub cross-requires : goal.cross-requires
cross-requires c = tt

pub returns : goal.returns
unfolding normal
returns c = rw (c.cross.ensures, c.difference-2.ensures, c.difference.ensures)
