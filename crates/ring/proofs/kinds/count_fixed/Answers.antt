-- `ring::kinds::count_fixed` meets its contract. The loop's invariant: the fixed points below `x` are counted.
-- Assumes nothing.
use native.Mathlib.Omega.{arith}
use mathlib.Core.Path.{ap, ◌∙◌}
use Rattle.placement.specs.Choices.{kind_of, fixed}
use Rattle.ring.proofs.KindLaws.{counted_none, counted-few, counted-more, counted-all}
use Rattle.ring.proofs.kinds.count_fixed.Goals as goal
use Rattle.ring.proofs.kinds.count_fixed.Goals.{then-is_fixed, else-is_fixed}

pub loop-x-init : goal.loop-x-init
loop-x-init c = counted_none _ _ _

pub kind_at-requires : goal.kind_at-requires
kind_at-requires c = omega (arith, c.requires)

pub overflow_add-n : goal.overflow_add-n
overflow_add-n c =
    omega (arith, counted-few c.loop-x.invariant, c.requires)

pub loop-x-preserved : goal.loop-x-preserved
loop-x-preserved c =
    counted-more c.loop-x.invariant c.loop-x-test.true
    (c.is_fixed.ensures ∙ ap fixed (c.from.ensures ∙ ap kind_of c.kind_at.ensures))
    (elim c.if-is_fixed.branch [ then-is_fixed w ↦ rw w.if-is_fixed.true w.n-is | else-is_fixed w ↦ rw w.if-is_fixed.false (omega arith) ])

pub returns : goal.returns
returns c = counted-all c.loop-x.invariant c.loop-x-test.false
