-- `probes::quadric_from` meets its contract. Assumes nothing.
use Rattle.probes.proofs.quadric_from.Goals as goal

pub returns : goal.returns
returns c =
    rw (
      c.f64_at.ensures,
      c.f64_at-2.ensures,
      c.f64_at-3.ensures,
      c.f64_at-4.ensures,
      c.f64_at-5.ensures,
      c.f64_at-6.ensures,
      c.f64_at-7.ensures,
      c.f64_at-8.ensures,
      c.f64_at-9.ensures,
      c.f64_at-10.ensures,
    )
