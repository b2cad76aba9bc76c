-- `openpairs::opening::open_listed` meets its contract. The loop's invariant: the pairs of the points passed are open; each arm of the test is one law of it.
-- The measure is how many points are left. Assumes nothing.
use Prim.Native.Nat.{◌≤◌, ◌-◌}
use Rattle.openpairs.proofs.WaitLaws.{Opening}
use Rattle.openpairs.proofs.opening.open_listed.Given as goal

abbrev pub invariant-loop-i : goal.invariant-loop-i
invariant-loop-i l = (l.i ≤ l.count) × Opening l.extent.v l.extent.f l.initial.w l.p l.q l.bounds.limit l.bounds.size l.x l.n l.w l.now_open l.i

abbrev pub decreases-loop-i : goal.decreases-loop-i
decreases-loop-i l = l.count - l.i
