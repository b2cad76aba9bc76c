-- `output::writing::put_face` meets its contract: three stores, each within the length.
-- Assumes nothing.
use native.Mathlib.Omega.{arith}
use lib.ListN.{length-set}
use Rattle.output.proofs.writing.put_face.Goals as goal

pub bounds-out_faces-n-2 : goal.bounds-out_faces-n-2
bounds-out_faces-n-2 c = simp length-set (omega arith)
