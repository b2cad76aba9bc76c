-- `placement::place::may_stand` meets its contract: the tests of the parts first, and the distance only after them. Assumes nothing.
use Rattle.placement.specs.Places.{stands}
use Rattle.placement.proofs.place.may_stand.Goals as goal

pub returns-then-all_finite-in_size : goal.returns-then-all_finite-in_size
unfolding stands
returns-then-all_finite-in_size c =
    rw (
      c.is_near.ensures,
      c.difference.ensures,
      ← c.in_size-3.ensures,
      ← c.in_size-2.ensures,
      ← c.in_size.ensures,
      ← c.all_finite.ensures,
      c.if-all_finite-in_size.true,
    )

pub returns-else-all_finite-in_size : goal.returns-else-all_finite-in_size
unfolding stands
returns-else-all_finite-in_size c =
    rw (
      ← c.in_size-3.ensures,
      ← c.in_size-2.ensures,
      ← c.in_size.ensures,
      ← c.all_finite.ensures,
      c.if-all_finite-in_size.false,
    )
