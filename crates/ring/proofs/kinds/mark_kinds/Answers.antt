-- `ring::kinds::mark_kinds` meets its contract: the kinds without a margin, the margin over them, and the count of both.
-- Assumes nothing.
use Rattle.ring.proofs.KindLaws.{kinds-with-margin, fixed_counted}
use Rattle.ring.proofs.kinds.mark_kinds.Goals as goal

pub mark_margin-requires : goal.mark_margin-requires
mark_margin-requires c =
    record { fact_1 = c.mark_borders.ensures.tidy.room; fact_2 = c.requires.fact_2 }

pub count_fixed-requires : goal.count_fixed-requires
count_fixed-requires c =
    (kinds-with-margin c.mark_borders.ensures c.mark_margin.ensures).tidy.room

pub shape_of-w : goal.shape_of-w
shape_of-w c = (kinds-with-margin c.mark_borders.ensures c.mark_margin.ensures).but.same_length

pub returns : goal.returns
returns c =
    record { kinded = kinds-with-margin c.mark_borders.ensures c.mark_margin.ensures; value = fixed_counted c.mark_borders.ensures c.mark_margin.ensures c.count_fixed.ensures }
