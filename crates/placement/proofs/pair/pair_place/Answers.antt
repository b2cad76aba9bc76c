-- `placement::pair::pair_place` meets its contract: the place that is chosen at the pair's own length. Assumes nothing.
use Rattle.placement.specs.Pairs.{pair_choice, pair_place}
use Rattle.placement.proofs.pair.pair_place.Goals as goal

pub returns : goal.returns
unfolding pair_choice pair_place
returns c = rw c.pair_choice.ensures
