-- `ring::borders::is_border` meets its contract: marked, a point's mark is the number of faces that it shares with x;
-- cleared, the memory is what gathering left. Assumes nothing.
use Rattle.ring.proofs.AroundLaws.{gathered-marks, gathered-looks}
use Rattle.ring.proofs.BorderLaws.{border-known}
use Rattle.ring.proofs.borders.is_border.Goals as goal

-- ---- the needs
pub mark_faces-requires : goal.mark_faces-requires
mark_faces-requires c = let held = gathered-marks c.requires.fact_1 c.near_from-base.ensures c.collect-n.ensures in
    record { fact_1 = held.0; fact_2 = held.1.0; fact_3 = held.1.1.0; fact_4 = held.1.1.1 }

pub has_single-found-requires : goal.has_single-found-requires
has_single-found-requires c = let held = gathered-looks c.requires.fact_1 c.near_from-base.ensures c.collect-n.ensures c.mark_faces.ensures in
    record { fact_1 = held.0; fact_2 = held.1 }

pub clear_faces-requires : goal.clear_faces-requires
clear_faces-requires c = let held = gathered-looks c.requires.fact_1 c.near_from-base.ensures c.collect-n.ensures c.mark_faces.ensures in
    record { fact_1 = held.0; fact_2 = held.1 }

pub returns : goal.returns
returns c = let held = border-known c.requires.fact_1 c.near_from-base.ensures c.collect-n.ensures c.mark_faces.ensures
    c.has_single-found.ensures c.clear_faces.ensures in
    record { value = held.0; but = held.1 }
