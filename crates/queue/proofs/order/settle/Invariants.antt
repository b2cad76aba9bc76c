-- `queue::order::settle` meets its contract. The loop's invariant: the entries are in another order, and they make a heap from place lo on.
-- The measure is lo. Assumes nothing.
use Prim.Native.Nat.{◌≤◌, ◌+◌, ◌/◌}
use Rattle.queue.proofs.SettleLaws.{Settling}
use Rattle.queue.proofs.order.settle.Given as goal

abbrev pub invariant-loop-lo : goal.invariant-loop-lo
invariant-loop-lo l = (l.lo ≤ (l.n + 2) / 4) × Settling l.extent.v l.extent.f l.n l.initial.w l.initial.p l.initial.q l.w l.p l.q l.lo

abbrev pub decreases-loop-lo : goal.decreases-loop-lo
decreases-loop-lo l = l.lo
