-- `geometry::Point::norm` meets its contract: the root of the dot with itself, from what the two calls ensure. Assumes nothing.
use Rattle.geometry.specs.Points.{norm}
use Rattle.geometry.proofs.Point.norm.Goals as goal

pub dot-requires : goal.dot-requires
dot-requires c = tt

pub root-requires : goal.root-requires
root-requires c = tt

pub returns : goal.returns
unfolding norm
returns c = rw (c.root.ensures, c.dot.ensures)
