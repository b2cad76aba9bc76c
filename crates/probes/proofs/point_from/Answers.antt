-- `probes::point_from` meets its contract. Assumes nothing.
use Rattle.probes.proofs.point_from.Goals as goal

pub returns : goal.returns
returns c = rw (c.f32_at.ensures, c.f32_at-2.ensures, c.f32_at-3.ensures)
