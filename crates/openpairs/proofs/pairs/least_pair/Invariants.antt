-- `openpairs::pairs::least_pair` meets its contract. The loop's invariant is `Leading`: the least of the pairs passed. Each arm of the test is one law of it.
-- The measure is how many pairs are left to look at. Assumes nothing.
use Prim.Native.Nat.{◌≤◌, ◌-◌}
use Rattle.openpairs.proofs.LeastLaws.{Leading}
use Rattle.openpairs.proofs.pairs.least_pair.Given as goal

abbrev pub invariant-loop-i : goal.invariant-loop-i
invariant-loop-i l = (l.i ≤ l.n) × Leading l.extent.v l.extent.f l.w l.p l.q l.bounds.size l.least l.i

abbrev pub decreases-loop-i : goal.decreases-loop-i
decreases-loop-i l = l.n - l.i
