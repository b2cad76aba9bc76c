-- `memory::entries::set_words` meets its contract: each write is within the memory, and `at + 1` is the cell after `at`.
-- Assumes nothing.
use native.Mathlib.Omega.{arith}
use native.Mathlib.Numerals.{towards_suc}
use lib.ListN.{length-set}
use Rattle.memory.proofs.entries.set_words.Goals as goal

pub bounds-w-at-2 : goal.bounds-w-at-2
bounds-w-at-2 c = simp length-set (omega arith)

pub bounds-w-at-3 : goal.bounds-w-at-3
bounds-w-at-3 c = simp length-set (omega arith)

pub bounds-w-at-4 : goal.bounds-w-at-4
bounds-w-at-4 c = simp length-set (omega arith)

pub returns : goal.returns
returns c = simp towards_suc
