-- `memory::points::set_point` meets its contract: each store is within the memory, and `3 * x + 1` is the cell after `3 * x`.
-- Assumes nothing.
use native.Mathlib.Omega.{arith}
use native.Mathlib.Numerals.{towards_suc}
use lib.ListN.{length-set}
use Rattle.memory.specs.Points.{with_point}
use Rattle.memory.proofs.points.set_point.Goals as goal

pub bounds-p-x-2 : goal.bounds-p-x-2
bounds-p-x-2 c = simp length-set (omega arith)

pub returns : goal.returns
unfolding with_point
returns c = simp towards_suc
