-- `probes::bare_from` meets its contract. Assumes nothing.
use Rattle.probes.proofs.bare_from.Goals as goal

pub returns : goal.returns
returns c = rw (c.point_from.ensures, c.start.ensures)
