-- `memory::entries::set_two` meets its contract: the first write changes no length. Assumes nothing.
use native.Mathlib.Omega.{arith}
use lib.ListN.{length-set}
use Rattle.memory.proofs.entries.set_two.Goals as goal

pub bounds-w-j : goal.bounds-w-j
bounds-w-j c = simp length-set (omega arith)
