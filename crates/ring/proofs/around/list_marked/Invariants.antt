-- `ring::around::list_marked` meets its contract. The loop's invariant: the marks of the points of the faces passed are off, and these points listed.
-- Assumes nothing.
use Rattle.ring.proofs.TakeLaws.{Taking}
use Rattle.ring.proofs.around.list_marked.Given as goal

abbrev pub invariant-loop-i : goal.invariant-loop-i
invariant-loop-i l = Taking l.extent.v l.extent.f l.initial.w 0 l.i l.w l.n
