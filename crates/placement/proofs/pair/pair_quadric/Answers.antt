-- `placement::pair::pair_quadric` meets its contract, from what `sum` ensures. Assumes nothing.
use Rattle.placement.specs.Pairs.{pair_quadric}
use Rattle.placement.proofs.pair.pair_quadric.Goals as goal

pub returns : goal.returns
unfolding pair_quadric
returns c = c.sum.ensures
