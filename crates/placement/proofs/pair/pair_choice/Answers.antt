-- `placement::pair::pair_choice` meets its contract, from what `choose` ensures of the pair's quadric. Assumes nothing.
use Rattle.placement.specs.Pairs.{pair_length, pair_choice}
use Rattle.placement.proofs.pair.pair_choice.Goals as goal

pub returns : goal.returns
unfolding pair_length pair_choice
returns c = rw (c.choose.ensures, c.pair_quadric.ensures)
