-- `probes::single_cost` meets its contract. Assumes nothing.
use Rattle.probes.specs.Patterns.{cost_pattern}
use Rattle.probes.proofs.single_cost.Goals as goal

pub returns : goal.returns
unfolding cost_pattern
returns c =
    rw (
      c.bits_of_f64.ensures,
      c.pair_cost.ensures,
      c.f32_of.ensures,
      c.vertex_from-remove.ensures,
      c.vertex_from-keep.ensures,
    )
