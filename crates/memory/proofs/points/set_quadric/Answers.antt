-- `memory::points::set_quadric` meets its contract: the second five cells begin where the first five end.
-- Assumes nothing.
use native.Mathlib.Numerals.{towards_suc}
use Rattle.memory.specs.Points.{with_quadric}
use Rattle.memory.proofs.points.set_quadric.Goals as goal

pub returns : goal.returns
unfolding with_quadric
returns c =
    rw (c.set_five-2.ensures, c.set_five.ensures) (simp towards_suc)
