-- `openpairs::opening::open_start` meets its contract. The loop's invariant: the pairs of the points passed are open.
-- The measure is how many points are left. Assumes nothing.
use Prim.Native.Nat.{◌≤◌, ◌-◌}
use Rattle.openpairs.proofs.StartLaws.{Starting}
use Rattle.openpairs.proofs.opening.open_start.Given as goal

abbrev pub invariant-loop-x : goal.invariant-loop-x
invariant-loop-x l = (l.x ≤ l.extent.v) × Starting l.extent.v l.extent.f l.initial.w l.p l.q l.bounds.limit l.bounds.size l.w l.n l.x

abbrev pub decreases-loop-x : goal.decreases-loop-x
decreases-loop-x l = l.extent.v - l.x
