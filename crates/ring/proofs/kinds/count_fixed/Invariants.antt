-- `ring::kinds::count_fixed` meets its contract. The loop's invariant: the fixed points below `x` are counted.
-- Assumes nothing.
use Rattle.ring.proofs.KindLaws.{CountedTo}
use Rattle.ring.proofs.kinds.count_fixed.Given as goal

abbrev pub invariant-loop-x : goal.invariant-loop-x
invariant-loop-x l = CountedTo l.extent.v l.extent.f l.w l.n l.x
