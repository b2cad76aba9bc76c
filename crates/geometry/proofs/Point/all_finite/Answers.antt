-- `geometry::Point::all_finite` meets its contract: std's test of each part is the definition's. Assumes nothing.
use Rattle.geometry.specs.Points.{all_finite}
use Rattle.geometry.proofs.Finite.{is-finite}
use Rattle.geometry.proofs.Point.all_finite.Goals as goal

pub returns : goal.returns
unfolding all_finite
returns c =
    rw (
      c.is_finite-3.ensures.value,
      c.is_finite-2.ensures.value,
      c.is_finite.ensures.value,
      is-finite,
      is-finite,
      is-finite,
    )
