-- `probes::single_place` meets its contract. Assumes nothing.
use Rattle.probes.specs.Patterns.{place_pattern}
use Rattle.probes.proofs.single_place.Goals as goal

pub returns : goal.returns
unfolding place_pattern
returns c =
    rw (
      c.bits_of_f32.ensures,
      c.bits_of_f32-2.ensures,
      c.bits_of_f32-3.ensures,
      c.pair_place-place.ensures,
      c.f32_of.ensures,
      c.vertex_from-remove.ensures,
      c.vertex_from-keep.ensures,
    )
