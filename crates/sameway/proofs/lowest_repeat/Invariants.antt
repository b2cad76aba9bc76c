-- `sameway::lowest_repeat` meets its contract. The loop's invariant: of the edges from points below `x` those of corners below the lowest are new.
-- Assumes nothing.
use Rattle.sameway.proofs.LowestLaws.{Lowering}
use Rattle.sameway.proofs.lowest_repeat.Given as goal

abbrev pub invariant-loop-x : goal.invariant-loop-x
invariant-loop-x l = Lowering l.extent.v l.extent.f l.initial.w l.w l.lowest l.x
