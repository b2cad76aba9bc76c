-- `queue::pop` meets its contract: the last one is let down from the top. Assumes nothing.
use native.Mathlib.Omega.{arith}
use Rattle.queue.proofs.PopLaws.{top-holed, top-heap, popping}
use Rattle.queue.proofs.pop.Goals as goal

pub entry_at-top-requires : goal.entry_at-top-requires
entry_at-top-requires c = record { fact_1 = omega (arith, c.requires.fact_1, c.requires.fact_2.few); fact_2 = c.requires.fact_2.enough }

pub entry_at-last-requires : goal.entry_at-last-requires
entry_at-last-requires c = record { fact_1 = omega (arith, c.requires.fact_1, c.requires.fact_2.few); fact_2 = c.requires.fact_2.enough }

pub sift_down-requires : goal.sift_down-requires
sift_down-requires c = record { fact_1 = top-holed c.requires.fact_2 c.requires.fact_1; fact_2 = top-heap c.requires.fact_2 c.requires.fact_1 }

pub returns : goal.returns
returns c =
    popping c.requires.fact_2 c.requires.fact_1 c.entry_at-top.ensures c.entry_at-last.ensures
    c.sift_down.ensures
