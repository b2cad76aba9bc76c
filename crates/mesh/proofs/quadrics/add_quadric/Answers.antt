-- `mesh::quadrics::add_quadric` meets its contract: what is stored is the sum of what was read and the value.
-- Assumes nothing.
use Rattle.mesh.specs.Clauses.Quadrics.{with_sum}
use Rattle.mesh.proofs.quadrics.add_quadric.Goals as goal

pub returns : goal.returns
unfolding with_sum
returns c =
    rw (c.set_quadric.ensures, c.sum.ensures, c.quadric_at-before.ensures)
