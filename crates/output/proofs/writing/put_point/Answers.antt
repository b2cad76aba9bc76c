-- `output::writing::put_point` meets its contract: three stores, each within the length, of what was read.
-- Assumes nothing.
use native.Mathlib.Omega.{arith}
use lib.ListN.{length-set}
use Rattle.output.proofs.writing.put_point.Goals as goal

pub bounds-out_points-n-2 : goal.bounds-out_points-n-2
bounds-out_points-n-2 c = simp length-set (omega arith)

pub returns : goal.returns
returns c = rw c.point_at-point.ensures
