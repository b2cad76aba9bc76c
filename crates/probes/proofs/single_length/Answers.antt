-- `probes::single_length` meets its contract. Assumes nothing.
use Rattle.probes.specs.Patterns.{length_pattern}
use Rattle.probes.proofs.single_length.Goals as goal

pub returns : goal.returns
unfolding length_pattern
returns c =
    rw (
      c.bits_of_f32.ensures,
      c.pair_length.ensures,
      c.bare_from-2.ensures,
      c.bare_from.ensures,
    )
