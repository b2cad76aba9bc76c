-- `mesh::quadrics::add_face` meets its contract: three sums, one after the other.
-- Assumes nothing.
use Rattle.mesh.specs.Clauses.Quadrics.{with_face}
use Rattle.mesh.proofs.quadrics.add_face.Goals as goal

pub returns : goal.returns
unfolding with_face
returns c =
    rw (c.add_quadric-3.ensures, c.add_quadric-2.ensures, c.add_quadric.ensures)
