-- `checks::check_faces` meets its contract. The loop's invariant: the faces passed are proper, so those from k on decide.
-- Assumes nothing.
use Prim.Native.Nat.{◌/◌}
use lib.ListN.{length}
use Rattle.checks.proofs.FaceLaws.{Passed}
use Rattle.checks.proofs.check_faces.Given as goal

abbrev pub invariant-loop-k : goal.invariant-loop-k
invariant-loop-k l = Passed l.v (length l.faces / 3) l.faces l.k
