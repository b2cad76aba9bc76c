-- `probes::single_plane` meets its contract. Assumes nothing.
use Rattle.probes.specs.Patterns.{plane_pattern}
use Rattle.probes.proofs.single_plane.Goals as goal

pub returns : goal.returns
unfolding plane_pattern
returns c =
    rw (
      c.bits_of_f64.ensures,
      c.bits_of_f64-2.ensures,
      c.bits_of_f64-3.ensures,
      c.bits_of_f64-4.ensures,
      c.plane_of-plane.ensures,
      c.point_from-3.ensures,
      c.point_from-2.ensures,
      c.point_from.ensures,
    )
