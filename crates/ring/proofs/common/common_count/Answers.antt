-- `ring::common::common_count` meets its contract: what is counted around remove, of what keep's faces marked, is the common neighbours;
-- cleared, the memory is as it was. Assumes nothing.
use Rattle.lists.proofs.FrameLaws.{but-then}
use Rattle.ring.proofs.AroundLaws.{may-mark, may-look}
use Rattle.ring.proofs.CommonLaws.{common-known}
use Rattle.ring.proofs.common.common_count.Goals as goal

pub mark_faces-requires : goal.mark_faces-requires
mark_faces-requires c = let held = may-mark c.requires.fact_1 c.requires.fact_2 in
    record { fact_1 = held.0; fact_2 = held.1.0; fact_3 = held.1.1.0; fact_4 = held.1.1.1 }

pub count_faces-r-requires : goal.count_faces-r-requires
count_faces-r-requires c = let held = may-look c.requires.fact_1 c.requires.fact_3 c.mark_faces.ensures.but in
    record { fact_1 = held.0; fact_2 = held.1 }

pub clear_faces-requires : goal.clear_faces-requires
clear_faces-requires c = let held = may-look c.requires.fact_1 c.requires.fact_2 (but-then c.mark_faces.ensures.but c.count_faces-r.ensures.remarked.but) in
    record { fact_1 = held.0; fact_2 = held.1 }

pub returns : goal.returns
returns c = let held = common-known c.requires.fact_1 c.requires.fact_2 c.requires.fact_3 c.mark_faces.ensures c.count_faces-r.ensures
    c.clear_faces.ensures in
    record { value = held.0; w_unchanged = held.1 }
