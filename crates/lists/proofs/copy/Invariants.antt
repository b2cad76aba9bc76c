-- `lists::copy` meets its contract. The loop's invariant: the cells below `i` are copied.
-- The measure is what is left of the list. Assumes nothing.
use Prim.Native.Nat.{◌≤◌, ◌-◌}
use mathlib.Core.Path.{◌≡◌}
use lib.ListN.{length}
use Rattle.lists.proofs.OverlayLaws.{copied}
use Rattle.lists.proofs.copy.Given as goal

abbrev pub invariant-loop-i : goal.invariant-loop-i
invariant-loop-i g l = (l.i ≤ length l.list) × (length l.out ≡ length l.initial.out) × (l.out ≡ copied l.i l.list l.initial.out)

abbrev pub decreases-loop-i : goal.decreases-loop-i
decreases-loop-i g l = length l.list - l.i
