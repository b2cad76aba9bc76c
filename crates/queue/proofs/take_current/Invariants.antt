-- `queue::take_current` meets its contract. The loop's invariant is `Taking`; each arm of the test is one law of it.
-- The measure is how many entries are left. Assumes nothing.
use Rattle.queue.proofs.TakeLaws.{Taking}
use Rattle.queue.proofs.take_current.Given as goal

abbrev pub invariant-loop-left : goal.invariant-loop-left
invariant-loop-left l = Taking l.extent.v l.extent.f l.initial.w l.initial.p l.initial.q l.n l.w l.p l.q l.left

abbrev pub decreases-loop-left : goal.decreases-loop-left
decreases-loop-left l = l.left
