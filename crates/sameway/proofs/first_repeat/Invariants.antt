-- `sameway::first_repeat` meets its contract. The loop's invariant: the corners at x below the link's are looked at, and no two of their edges lead to the same point.
-- The measure is how far the link is from the end. Assumes nothing.
use Rattle.sameway.proofs.LookLaws.{Looking, left}
use Rattle.sameway.proofs.first_repeat.Given as goal

abbrev pub invariant-loop-link : goal.invariant-loop-link
invariant-loop-link l = Looking l.extent.v l.extent.f l.initial.w l.x l.w l.link

abbrev pub decreases-loop-link : goal.decreases-loop-link
decreases-loop-link l = left l.extent.f l.link
