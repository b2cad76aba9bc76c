-- `walking::list_folds` meets its contract. The loop's invariant: the numbers below `i` are copied. The measure is what is left of `n`.
-- Assumes nothing.
use Prim.Native.Nat.{◌≤◌, ◌-◌}
use mathlib.Core.Path.{◌≡◌}
use lib.ListN.{length}
use Rattle.lists.proofs.OverlayLaws.{copied}
use Rattle.walking.proofs.FoldListLaws.{row}
use Rattle.walking.proofs.list_folds.Given as goal

abbrev pub invariant-loop-i : goal.invariant-loop-i
invariant-loop-i l = (l.i ≤ l.n) × (length l.folds ≡ length l.initial.folds) × (l.folds ≡ copied l.i (row l.fn.extent.v l.fn.extent.f l.w l.made l.initial.folds) l.initial.folds)

abbrev pub decreases-loop-i : goal.decreases-loop-i
decreases-loop-i l = l.n - l.i
