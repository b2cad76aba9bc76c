-- Whether a face repeats an edge of a lower one: it hangs on the faces up to it; and where none of n does, each does not.
-- Assumes nothing.
use Prim.Native.Nat.{ℕ, ◌<◌}
use native.Mathlib.Omega.{arith}
use mathlib.Core.Path.{◌≡◌, sym, ap, ap₂, ◌∙◌}
use mathlib.Core.List.{List}
use mathlib.Core.Bool.{Bool, false, cond}
use lib.Dec.{ltb}
use Rattle.lists.specs.Lists.{some, below}
use Rattle.lists.proofs.TestLaws.{clash, false_of}
use Rattle.lists.proofs.EveryLaws.{some-count, some-from}
use Rattle.lists.proofs.BelowLaws.{length-below, get_d-below, sum-same-below}
use Rattle.walk.specs.declared.Face.{Face}
use Rattle.walk.specs.Faces.{face_at}
use Rattle.sameway.specs.Ways.{same_way, repeats}

-- where none of n numbered things is bad, each is good
pub each-good : (bad : ℕ → Bool) (n : ℕ) → some bad (below n) ≡ false → (k : ℕ) → k < n → bad k ≡ false
each-good bad n none k h = false_of (bad k) (λ is. clash (some-from bad 0 (below n) k (rw length-below h) (ap bad (get_d-below n k h) ∙ is)) none)

-- whether a face repeats an edge hangs on the faces up to it
pub repeats-same : (f : ℕ) (faces others : List ℕ) → ((k : ℕ) → k < f → face_at faces k ≡ face_at others k) → (k : ℕ) → k < f → repeats faces k ≡ repeats others k
repeats-same f faces others same k l =
    some-count (λ j. same_way (face_at faces j) (face_at faces k)) (below k)
    ∙ ap (ltb 0) (sum-same-below _ _ k (λ j h. ap₂ (λ (f g : Face). cond (same_way f g) 1 0) (same j (omega arith)) (same k l)))
    ∙ sym (some-count (λ j. same_way (face_at others j) (face_at others k)) (below k))
