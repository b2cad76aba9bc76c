-- `mesh::links::push_corner` meets its contract: what its three calls ensure, put together.
-- Assumes nothing.
use Rattle.mesh.proofs.links.push_corner.Goals as goal

pub returns : goal.returns
returns c = cc
