-- `openpairs::pairs::comes_first_by_key` meets its contract: the three numbers compare, one after another, as the one that they make.
-- Assumes nothing.
use mathlib.Core.Path.{◌∙◌}
use borrow.Author.Rules.{rules}
use Rattle.openpairs.proofs.RankLaws.{Sized, key-held, by-numbers}
use Rattle.openpairs.proofs.pairs.comes_first_by_key.Goals as goal
use Rattle.openpairs.proofs.pairs.comes_first_by_key.Goals.{Start}

a-sized : (c : Start) → Sized c.args.a
a-sized c = record { cost_fits = search rules; keep_fits = search rules; remove_fits = search rules }

b-sized : (c : Start) → Sized c.args.b
b-sized c = record { cost_fits = search rules; keep_fits = search rules; remove_fits = search rules }

pub returns : goal.returns
returns c =
    let a-fits = a-sized (goal.at.returns c).Start in
    let b-fits = b-sized (goal.at.returns c).Start in
    c.lt.ensures ∙ by-numbers a-fits b-fits (key-held a-fits c.order.ensures) (key-held b-fits c.order-2.ensures)
