-- `placement::pair::pair_eligible` meets its contract: a pair has a candidate exactly where it is eligible. Assumes nothing.
use Rattle.placement.proofs.PlacementLaws.{eligible-is}
use Rattle.placement.proofs.pair.pair_eligible.Goals as goal

pub returns : goal.returns
returns c = rw (c.is_some.ensures, c.pair_candidate.ensures, eligible-is)
