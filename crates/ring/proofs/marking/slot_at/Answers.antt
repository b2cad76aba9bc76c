-- `ring::marking::slot_at` meets its contract: a cell of the memory fits a u32, and so a usize.
-- Assumes nothing.
use Prim.Native.Nat.{◌+◌}
use native.Mathlib.Omega.{arith}
use Rattle.ring.proofs.marking.slot_at.Goals as goal

pub overflow_cast-result : goal.overflow_cast-result
overflow_cast-result c = omega (arith, c.shared_slice_known-1.given (c.args.base + c.args.i))
