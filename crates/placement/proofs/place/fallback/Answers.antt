-- `placement::place::fallback` meets its contract: the cheaper of two, twice, each with its own error. Assumes nothing.
use Rattle.placement.specs.Places.{fallback}
use Rattle.placement.proofs.PlacementLaws.{cheaper-with-error}
use Rattle.placement.proofs.place.fallback.Goals as goal

pub returns : goal.returns
unfolding fallback
returns c =
    rw (
      c.cheaper.ensures,
      c.with_error-3.ensures,
      c.middle.ensures,
      c.cheaper-ends.ensures,
      c.with_error-2.ensures,
      c.with_error.ensures,
      cheaper-with-error,
      cheaper-with-error,
    )
