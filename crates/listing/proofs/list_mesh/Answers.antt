-- By the test of the room.
use Rattle.std.proofs.Common.{sym, ◌∙◌}
use Rattle.listing.proofs.TextLaws.{all-printed, fits-bounds}
use Rattle.listing.proofs.list_mesh.Goals as goal

pub returns-then-mesh_fits : goal.returns-then-mesh_fits
returns-then-mesh_fits c =
    let fits = sym c.mesh_fits.ensures ∙ c.if-mesh_fits.true in
    all-printed fits (fits-bounds _ _ _ fits).2 c.put_mesh.ensures
