-- `placement::place::choose` meets its contract, in each case of the tested point. Assumes nothing.
use Rattle.placement.specs.Places.{place_of}
use Rattle.placement.proofs.place.choose.Goals as goal

pub returns-in-Some : goal.returns-in-Some
unfolding place_of
returns-in-Some c =
    rw (
      c.with_error.ensures,
      ← c.difference.ensures,
      ← c.solve.ensures,
      ← c.tested.ensures,
      c.in-Some.is,
    )

pub returns-in-None : goal.returns-in-None
unfolding place_of
returns-in-None c =
    rw (
      c.fallback.ensures,
      ← c.difference.ensures,
      ← c.solve.ensures,
      ← c.tested.ensures,
      c.in-None.is,
    )
