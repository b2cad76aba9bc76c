-- `ring::kinds::mark_margin` meets its contract. The loop's invariant: the first entries have their kinds.
-- Assumes nothing.
use Rattle.ring.proofs.KindLaws.{Marked}
use Rattle.ring.proofs.kinds.mark_margin.Given as goal

abbrev pub invariant-loop-x : goal.invariant-loop-x
invariant-loop-x l = Marked l.extent.v l.extent.f l.margin l.initial.w l.w l.x-index
