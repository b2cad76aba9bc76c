-- `foldtest::fair::is_surely_fair` meets its contract, by the law on squares, whose demands on its four numbers are computed. Assumes nothing.
use lib.Dec.{lit≤}
use Rattle.bits.specs.Root.{steps}
use Rattle.foldtest.proofs.SquareLaws.{fair-by-tests}
use Rattle.foldtest.proofs.fair.is_surely_fair.Goals as goal

pub dot-dot-requires : goal.dot-dot-requires
dot-dot-requires c = tt

pub dot-b-requires : goal.dot-b-requires
dot-b-requires c = tt

pub dot-a-requires : goal.dot-a-requires
dot-a-requires c = tt

pub returns : goal.returns
unfolding steps
returns c = λ passed.
    fair-by-tests _ _ _ _ c.args.before c.args.after c.dot-dot.ensures c.dot-b.ensures c.dot-a.ensures passed
    (record {
      half = lit≤ tt;
      least_finite = lit≤ tt;
      room = lit≤ tt;
      dot_finite = lit≤ tt;
      dot_most = lit≤ tt;
      after_finite = lit≤ tt;
      after_most = lit≤ tt;
    })
