-- `probes::single_error` meets its contract. Assumes nothing.
use Rattle.probes.specs.Patterns.{error_pattern}
use Rattle.probes.proofs.single_error.Goals as goal

pub returns : goal.returns
unfolding error_pattern
returns c =
    rw (
      c.bits_of_f64.ensures,
      c.error_at.ensures,
      c.point_from.ensures,
      c.quadric_from.ensures,
    )
