-- `lists::copy` meets its contract. The loop's invariant: the cells below `i` are copied.
-- The measure is what is left of the list. Assumes nothing.
use native.Mathlib.Omega.{arith}
use mathlib.Core.Path.{refl, ap, ◌∙◌}
use lib.ListN.{set, length-set}
use Rattle.lists.proofs.OverlayLaws.{copy_more, copy-all}
use Rattle.lists.proofs.copy.Goals as goal

pub loop-i-init : goal.loop-i-init
loop-i-init g c = (omega arith, refl, refl)

pub loop-i-preserved : goal.loop-i-preserved
loop-i-preserved g c =
    let more = copy_more c.loop-i.i c.args.list.now c.args.out.now _ c.index-list-i.result (omega arith) (omega arith) c.loop-i.invariant.2 in
    (omega arith, simp length-set c.loop-i.invariant.1, ap (set c.loop-i.out c.loop-i.i) c.index-list-i.is ∙ more)

pub returns : goal.returns
returns g c = copy-all c.loop-i.i c.args.list.now c.args.out.now _ (omega arith) (omega arith) c.loop-i.invariant.2
