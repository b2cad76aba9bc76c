-- `queue::gather_current` meets its contract. The loop's invariant is `Gathering`; each arm of the test is one law of it.
-- The measure is how many entries are left to look at. Assumes nothing.
use Prim.Native.Nat.{◌≤◌, ◌-◌}
use Rattle.queue.proofs.ThrowLaws.{Gathering}
use Rattle.queue.proofs.gather_current.Given as goal

abbrev pub invariant-loop-i : goal.invariant-loop-i
invariant-loop-i l = (l.i ≤ l.n) × Gathering l.extent.v l.extent.f l.initial.w l.initial.p l.initial.q l.n l.w l.p l.q l.kept l.i

abbrev pub decreases-loop-i : goal.decreases-loop-i
decreases-loop-i l = l.n - l.i
