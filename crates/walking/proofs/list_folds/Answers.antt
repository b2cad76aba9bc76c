-- `walking::list_folds` meets its contract. The loop's invariant: the numbers below `i` are copied. The measure is what is left of `n`.
-- Assumes nothing.
use Prim.Native.Nat.{ℕ, ◌+◌}
use native.Mathlib.Omega.{arith}
use mathlib.Core.Path.{refl, ap, ◌∙◌}
use lib.ListN.{get_or, set, length-set}
use Rattle.walking.proofs.FoldListLaws.{row_more, row-all}
use Rattle.walking.proofs.list_folds.Goals as goal

pub loop-i-init : goal.loop-i-init
loop-i-init c = (omega arith, refl, refl)

pub bounds-w-from : goal.bounds-w-from
bounds-w-from c = omega (arith, c.folds_from-from.ensures)

pub loop-i-preserved : goal.loop-i-preserved
loop-i-preserved c = (
  omega arith,
  simp length-set c.loop-i.invariant.1,
  ap (λ (from : ℕ). set c.loop-i.folds c.loop-i.i (get_or c.args.w.now (from + c.loop-i.i) 0)) c.folds_from-from.ensures
      ∙ row_more c.args.extent.v c.args.extent.f c.args.w.now c.args.made c.args.folds.now c.loop-i.i c.loop-i.folds (omega arith) c.loop-i.invariant.2,
)

pub returns : goal.returns
returns c =
    row-all c.args.extent.v c.args.extent.f c.args.w.now c.args.made c.args.folds.now c.loop-i.i c.loop-i.folds (omega arith) (omega arith) c.loop-i.invariant.2
