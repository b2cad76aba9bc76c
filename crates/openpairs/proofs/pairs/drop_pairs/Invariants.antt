-- `openpairs::pairs::drop_pairs` meets its contract. The loop's invariant is `Dropping`; each arm of the test is one law of it.
-- The measure is how many pairs are left to look at. Assumes nothing.
use Prim.Native.Nat.{◌≤◌, ◌-◌}
use Rattle.openpairs.proofs.DropLaws.{Dropping}
use Rattle.openpairs.proofs.pairs.drop_pairs.Given as goal

abbrev pub invariant-loop-i : goal.invariant-loop-i
invariant-loop-i l = (l.i ≤ l.n) × Dropping l.extent.v l.extent.f l.initial.w l.keep l.remove l.w l.kept l.i

abbrev pub decreases-loop-i : goal.decreases-loop-i
decreases-loop-i l = l.n - l.i
