-- `placement::pair::pair_candidate` meets its contract: a test that fails leaves no candidate, and after all of them the place comes with its own error.
-- Assumes nothing.
use Rattle.geometry.proofs.Finite.{is-finite}
use Rattle.placement.specs.Pairs.{pair_choice, pair_place, pair_cost, eligible, pair_candidate}
use Rattle.placement.proofs.pair.pair_candidate.Goals as goal

pub returns-then-is_fixed : goal.returns-then-is_fixed
unfolding pair_candidate eligible
returns-then-is_fixed c = rw (← c.is_fixed.ensures, ← c.is_fixed-2.ensures, c.if-is_fixed.true)

pub returns-then-is_too_long : goal.returns-then-is_too_long
unfolding pair_candidate eligible
returns-then-is_too_long c =
    rw (
      ← c.is_fixed.ensures,
      ← c.is_fixed-2.ensures,
      c.if-is_fixed.false,
      ← c.is_too_long.ensures,
      c.if-is_too_long.true,
    )

pub returns : goal.returns
unfolding pair_candidate eligible pair_choice pair_place pair_cost
returns c =
    rw (
      c.then_some.ensures,
      c.is_finite.ensures.value,
      is-finite,
      c.pair_choice-choice.ensures,
      ← c.is_fixed.ensures,
      ← c.is_fixed-2.ensures,
      c.if-is_fixed.false,
      ← c.is_too_long.ensures,
      c.if-is_too_long.false,
    )
