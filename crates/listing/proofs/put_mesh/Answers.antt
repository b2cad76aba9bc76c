-- One part after another.
use Rattle.listing.proofs.TextLaws.{mesh-stored}
use Rattle.listing.proofs.put_mesh.Goals as goal

pub returns : goal.returns
returns c =
    mesh-stored _ _ _ _ c.put_head-first_point.ensures c.put_points-count.ensures c.put_line-first_face.ensures
    c.put_faces.ensures
