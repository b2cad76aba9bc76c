-- `placement::place::is_surely_near` meets its contract, by the law on squares, whose demands on its two numbers are computed. Assumes nothing.
use lib.Dec.{lit≤}
use Rattle.bits.specs.Root.{steps}
use Rattle.placement.proofs.NearLaws.{near-by-tests}
use Rattle.placement.proofs.place.is_surely_near.Goals as goal

pub returns : goal.returns
unfolding steps
returns c = λ passed.
    near-by-tests _ _ c.args.way c.args.other c.dot.ensures c.dot-square.ensures passed (lit≤ tt) (lit≤ tt) (lit≤ tt)
