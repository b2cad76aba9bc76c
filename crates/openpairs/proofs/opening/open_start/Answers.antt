-- `openpairs::opening::open_start` meets its contract. The loop's invariant: the pairs of the points passed are open.
-- The measure is how many points are left. Assumes nothing.
use native.Mathlib.Omega.{arith}
use borrow.Author.Rules.{rules}
use Rattle.mesh.proofs.TidyLaws.{tidy-but}
use Rattle.openpairs.proofs.StartLaws.{starting-none, starting-next, starting-room, starting-all}
use Rattle.openpairs.proofs.opening.open_start.Goals as goal

pub loop-x-init : goal.loop-x-init
loop-x-init c = (search rules, starting-none)

pub open_around-n-requires : goal.open_around-n-requires
open_around-n-requires c =
    record {
      tidy = tidy-but (omega arith) c.loop-x.invariant.1.but c.requires.fact_1;
      point = search rules;
      points_long = c.requires.fact_2;
      quadrics_long = c.requires.fact_3;
      room = starting-room c.loop-x.invariant.1 c.requires.fact_1 (search rules);
    }

pub loop-x-preserved : goal.loop-x-preserved
loop-x-preserved c =
    (search rules, starting-next c.loop-x.invariant.1 c.open_around-n.ensures)

pub returns : goal.returns
returns c = starting-all (search rules) c.loop-x.invariant.1
