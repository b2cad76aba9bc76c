-- `ring::borders::mark_borders` meets its contract. The loop's invariant: the points below `x` have their kinds.
-- Assumes nothing.
use native.Mathlib.Omega.{arith}
use Rattle.ring.proofs.KindLaws.{kinds-none, kinds-more, kinds-all}
use Rattle.ring.proofs.borders.mark_borders.Goals as goal

pub loop-x-init : goal.loop-x-init
loop-x-init c = kinds-none _ c.requires

pub border_kind-kind-requires : goal.border_kind-kind-requires
border_kind-kind-requires c = record { fact_1 = c.loop-x.invariant.tidy; fact_2 = c.loop-x-test.true }

pub set_kind-requires : goal.set_kind-requires
set_kind-requires c =
    omega (arith, c.loop-x.invariant.tidy.room, c.border_kind-kind.ensures.but.same_length, c.loop-x-test.true)

pub loop-x-preserved : goal.loop-x-preserved
loop-x-preserved c =
    kinds-more c.loop-x.invariant c.loop-x-test.true c.border_kind-kind.ensures.value c.border_kind-kind.ensures.but
    c.from.ensures c.set_kind.ensures

pub shape_of-w : goal.shape_of-w
shape_of-w c = c.loop-x.invariant.but.same_length

pub returns : goal.returns
returns c = kinds-all c.loop-x.invariant c.loop-x-test.false
