-- `memory::points::set_five` meets its contract: each store is within the memory, and `at + 1` is the cell after `at`.
-- Assumes nothing.
use native.Mathlib.Omega.{arith}
use native.Mathlib.Numerals.{towards_suc}
use lib.ListN.{length-set}
use Rattle.memory.proofs.points.set_five.Goals as goal

pub bounds-q-at-2 : goal.bounds-q-at-2
bounds-q-at-2 c = simp length-set (omega arith)

pub bounds-q-at-3 : goal.bounds-q-at-3
bounds-q-at-3 c = simp length-set (omega arith)

pub bounds-q-at-4 : goal.bounds-q-at-4
bounds-q-at-4 c = simp length-set (omega arith)

pub bounds-q-at-5 : goal.bounds-q-at-5
bounds-q-at-5 c = simp length-set (omega arith)

pub shape_of-q : goal.shape_of-q
shape_of-q c = simp length-set

pub returns : goal.returns
returns c = simp towards_suc
