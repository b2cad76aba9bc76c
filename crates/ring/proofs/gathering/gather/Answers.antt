-- `ring::gathering::gather` meets its contract: the second list leaves the first as it is.
-- Assumes nothing.
use native.Mathlib.Omega.{arith}
use Rattle.ring.proofs.RingLaws.{still-tidy, still-long, both-gathered}
use Rattle.ring.proofs.gathering.gather.Goals as goal

pub collect-fars-requires : goal.collect-fars-requires
collect-fars-requires c =
    record { fact_1 = still-tidy c.requires.fact_1 c.near_from-near.ensures c.far_from-far.ensures c.collect-nears.ensures; fact_2 = c.requires.fact_2.1; fact_3 = omega (arith, c.far_from-far.ensures); fact_4 = still-long c.requires.fact_1 c.near_from-near.ensures c.far_from-far.ensures c.collect-nears.ensures }

pub returns : goal.returns
returns c =
    both-gathered c.requires.fact_1 c.near_from-near.ensures c.far_from-far.ensures c.collect-nears.ensures
    c.collect-fars.ensures
