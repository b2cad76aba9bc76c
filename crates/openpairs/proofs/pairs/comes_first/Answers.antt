-- `openpairs::pairs::comes_first` meets its contract: the lower cost comes first, and past the two tests the keys decide.
-- Assumes nothing.
use native.Mathlib.Nat.{le_of_lt}
use mathlib.Core.Path.{sym}
use borrow.Author.Rules.{rules}
use borrow.Author.Tests.{lt-ltb, le-ltb}
use Rattle.openpairs.proofs.RankLaws.{Sized, first-by-cost}
use Rattle.openpairs.proofs.pairs.comes_first.Goals as goal
use Rattle.openpairs.proofs.pairs.comes_first.Goals.{Start}

a-sized : (c : Start) → Sized c.args.a
a-sized c = record { cost_fits = search rules; keep_fits = search rules; remove_fits = search rules }

b-sized : (c : Start) → Sized c.args.b
b-sized c = record { cost_fits = search rules; keep_fits = search rules; remove_fits = search rules }

pub returns-then-a-b : goal.returns-then-a-b
returns-then-a-b c =
    sym (lt-ltb _ _ (first-by-cost (a-sized (goal.at.returns-then-a-b c).Start) (b-sized (goal.at.returns-then-a-b c).Start) c.if-a-b.true))

pub returns-then-b-a : goal.returns-then-b-a
returns-then-b-a c =
    sym (le-ltb _ _ (le_of_lt (first-by-cost (b-sized (goal.at.returns-then-b-a c).Start) (a-sized (goal.at.returns-then-b-a c).Start) c.if-b-a.true)))
