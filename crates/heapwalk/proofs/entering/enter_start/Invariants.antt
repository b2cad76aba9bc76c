-- `heapwalk::entering::enter_start` meets its contract. The loop's invariant: the pairs of the points passed are entered.
-- The measure is how many points are left. Assumes nothing.
use Prim.Native.Nat.{◌≤◌, ◌-◌}
use Rattle.heapwalk.specs.Clauses.Entering.{Entered}
use Rattle.heapwalk.proofs.StartLaws.{rising_below}
use Rattle.heapwalk.proofs.entering.enter_start.Given as goal

abbrev pub invariant-loop-x : goal.invariant-loop-x
invariant-loop-x l = (l.x ≤ l.extent.v) × Entered l.extent.v l.extent.f l.initial.w l.initial.p l.initial.q 0 l.bounds.limit l.bounds.size (rising_below l.extent.v l.extent.f l.initial.w l.initial.p l.initial.q l.bounds.limit l.bounds.size l.x) l.w l.p l.q l.n

abbrev pub decreases-loop-x : goal.decreases-loop-x
decreases-loop-x l = l.extent.v - l.x
