-- `ring::borders::mark_borders` meets its contract. The loop's invariant: the points below `x` have their kinds.
-- Assumes nothing.
use Rattle.ring.proofs.KindLaws.{Kinds}
use Rattle.ring.proofs.borders.mark_borders.Given as goal

abbrev pub invariant-loop-x : goal.invariant-loop-x
invariant-loop-x l = Kinds l.extent.v l.extent.f l.preserve l.initial.w l.w l.x
