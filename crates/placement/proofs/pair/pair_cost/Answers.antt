-- `placement::pair::pair_cost` meets its contract: the error that comes with that place. Assumes nothing.
use Rattle.placement.specs.Pairs.{pair_choice, pair_place, pair_cost}
use Rattle.placement.proofs.pair.pair_cost.Goals as goal

pub returns : goal.returns
unfolding pair_choice pair_place pair_cost
returns c = rw c.pair_choice.ensures
