-- `ring::kinds::mark_margin` meets its contract. The loop's invariant: the first entries have their kinds.
-- Assumes nothing.
use native.Mathlib.Omega.{arith}
use mathlib.Core.Path.{refl}
use Rattle.ring.proofs.KindLaws.{marked-none, entry-below, marked_more, marked_all}
use Rattle.ring.proofs.kinds.mark_margin.Goals as goal

pub loop-x-init : goal.loop-x-init
loop-x-init c = marked-none _

pub set_kind-requires : goal.set_kind-requires
set_kind-requires c =
    omega (arith, c.requires.fact_1, c.loop-x.invariant.done.but.same_length, entry-below c.args.margin.now c.loop-x.x-index c.requires.fact_2 c.loop-x-test.true)

pub loop-x-preserved : goal.loop-x-preserved
loop-x-preserved c =
    marked_more c.requires.fact_1 c.requires.fact_2 c.loop-x.invariant c.loop-x-test.true refl c.from.ensures c.set_kind.ensures

pub shape_of-w : goal.shape_of-w
shape_of-w c = c.loop-x.invariant.done.but.same_length

pub returns : goal.returns
returns c =
    marked_all c.requires.fact_1 c.requires.fact_2 c.loop-x.invariant c.loop-x-test.false
