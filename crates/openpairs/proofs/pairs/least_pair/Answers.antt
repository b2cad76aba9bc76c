-- `openpairs::pairs::least_pair` meets its contract. The loop's invariant is `Leading`: the least of the pairs passed. Each arm of the test is one law of it.
-- The measure is how many pairs are left to look at. Assumes nothing.
use mathlib.Core.Path.{sym, ap, ◌∙◌}
use borrow.Author.Rules.{rules}
use Rattle.placement.specs.Pairs.{pair_place}
use Rattle.openpairs.proofs.LeastLaws.{leading-first, leading-new, leading-stays, leading-named, leading-least}
use Rattle.openpairs.proofs.pairs.least_pair.Goals as goal
use Rattle.openpairs.proofs.pairs.least_pair.Goals.{then-comes_first, else-comes_first}

pub ranked_at-least-requires : goal.ranked_at-least-requires
ranked_at-least-requires c =
    record { inside = search rules; room = search rules; named = c.requires.fact_4 0 (search rules); points_long = search rules; quadrics_long = search rules }

pub loop-i-init : goal.loop-i-init
loop-i-init c = (search rules, leading-first c.ranked_at-least.ensures)

pub ranked_at-next-requires : goal.ranked_at-next-requires
ranked_at-next-requires c =
    record { inside = search rules; room = search rules; named = c.requires.fact_4 c.loop-i.i (search rules); points_long = search rules; quadrics_long = search rules }

pub loop-i-preserved : goal.loop-i-preserved
loop-i-preserved c = (
  search rules,
  elim c.if-comes_first.branch [
    | then-comes_first w ↦ rw w.least-is (leading-new c.loop-i.invariant.1 c.ranked_at-next.ensures (sym c.comes_first.ensures ∙ w.if-comes_first.true))
    | else-comes_first w ↦ rw w.least-is (leading-stays c.loop-i.invariant.1 c.ranked_at-next.ensures (sym c.comes_first.ensures ∙ w.if-comes_first.false))
  ],
)

pub ends_at-requires-clause-named : goal.ends_at-requires-clause-named
ends_at-requires-clause-named c = leading-named c.loop-i.invariant.0 c.requires.fact_4 c.loop-i.invariant.1

pub returns : goal.returns
returns c =
    leading-least (search rules) c.requires.fact_4 c.loop-i.invariant.1
    (c.pair_place-place.ensures ∙ ap (λ ends. pair_place c.args.bounds.size ends.0 ends.1) c.ends_at.ensures)
