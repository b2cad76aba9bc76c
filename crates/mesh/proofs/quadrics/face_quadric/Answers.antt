-- `mesh::quadrics::face_quadric` meets its contract: the quadric of the plane through the three points that were read.
-- Assumes nothing.
use Rattle.mesh.proofs.quadrics.face_quadric.Goals as goal

pub returns : goal.returns
returns c =
    rw (
      c.of_plane.ensures,
      c.plane_of.ensures,
      c.point_at-c.ensures,
      c.point_at-b.ensures,
      c.point_at-a.ensures,
    )
