-- `placement::pair::pair_length` meets its contract, from what `difference` and `norm` ensure. Assumes nothing.
use Rattle.placement.specs.Pairs.{pair_length}
use Rattle.placement.proofs.pair.pair_length.Goals as goal

pub returns : goal.returns
unfolding pair_length
returns c = rw (c.norm.ensures, c.difference.ensures)
