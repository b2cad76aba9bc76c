-- `foldtest::lowest_around` meets its contract: a live face that holds just one of the two points is in one of the two lists.
-- Assumes nothing.
use Rattle.ring.proofs.SlotLaws.{around-listed}
use Rattle.foldtest.proofs.HarmLaws.{lowest-harm}
use Rattle.foldtest.proofs.lowest_around.Goals as goal

pub lowest_harmed-at_keep-requires : goal.lowest_harmed-at_keep-requires
lowest_harmed-at_keep-requires c =
    record { fact_1 = c.requires.fact_1.room; fact_2 = c.requires.fact_2; fact_3 = around-listed c.requires.fact_1.faces_proper c.requires.fact_3 }

pub lowest_harmed-requires : goal.lowest_harmed-requires
lowest_harmed-requires c =
    record { fact_1 = c.requires.fact_1.room; fact_2 = c.requires.fact_2; fact_3 = around-listed c.requires.fact_1.faces_proper c.requires.fact_4 }

pub returns : goal.returns
returns c =
    lowest-harm c.args.p.now c.args.fold.place c.requires.fact_3.gathered c.requires.fact_4.gathered c.lowest_harmed-at_keep.ensures c.lowest_harmed.ensures
