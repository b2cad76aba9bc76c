-- `walking::laid_out` meets its contract: what the four steps leave is the mesh at the start.
-- Assumes nothing.
use Rattle.walking.proofs.LaidLaws.{quadrics-asked, laid_out}
use Rattle.walking.proofs.laid_out.Goals as goal

pub lay_quadrics-requires : goal.lay_quadrics-requires
lay_quadrics-requires c = let held = quadrics-asked c.requires c.lay_faces.ensures c.mark_kinds-fixed.ensures.kinded c.lay_points.ensures in
    record { fact_1 = held.0; fact_2 = held.1.0; fact_3 = held.1.1.0; fact_4 = held.1.1.1 }

pub returns : goal.returns
returns c =
    laid_out c.requires c.lay_faces.ensures c.mark_kinds-fixed.ensures.kinded c.lay_points.ensures
    c.lay_quadrics.ensures c.mark_kinds-fixed.ensures.value
