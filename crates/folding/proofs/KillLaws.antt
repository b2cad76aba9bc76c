-- Killing the faces of a list of slots that hold a point: which cells change, which faces live on.
-- Assumes nothing.
use Prim.Native.Nat.{ℕ, ◌+◌, ◌*◌, ◌≤◌, ◌<◌}
use native.Mathlib.Omega.{arith}
use mathlib.Core.Path.{◌≡◌, refl, sym, ap₂, ◌∙◌}
use mathlib.Core.List.{List, [], ◌∷◌}
use mathlib.Core.Bool.{Bool, true, false, not, ◌&&◌, ◌||◌, and-true, and-false}
use lib.Dec.{ltb, eqb}
use lib.ListN.{length}
use lib.Seq.{get_or-set_same, get_or-set_other}
use borrow.Author.Tests.{ltb-true, eqb-true, eqb-false}
use Rattle.walk.specs.declared.Face.{Face}
use Rattle.lists.specs.Lists.{every, some}
use Rattle.walk.specs.Faces.{holds, face_at}
use Rattle.lists.proofs.TestLaws.{by-test}
use Rattle.lists.proofs.EveryLaws.{every-head, every-tail}
use Rattle.memory.specs.Memory.{lives}
use Rattle.lists.specs.Frames.{But}
use Rattle.lists.proofs.FrameLaws.{but-refl, but-set}
use Rattle.folding.specs.Clauses.Steps.{in_turn, killed}
use Rattle.memory.specs.Layout.{lives_from}

-- the face in a slot, where only flags change
pub face-flags : {f hi : ℕ} {w w' : List ℕ} → But (3 * f) hi w w' → (k : ℕ) → k < f → face_at w' k ≡ face_at w k
face-flags but k l =
    rw (but.under (3 * k) (omega arith), but.under (3 * k + 1) (omega arith), but.under (3 * k + 2) (omega arith))

-- two kills in a row
two-kills : (l a b h : Bool) → ((l && not (a && h)) && not (b && h)) ≡ (l && not ((a || b) && h))
two-kills false a b h = refl
two-kills true false b h = refl
two-kills true true b true = refl
two-kills true true true false = refl
two-kills true true false false = refl

module _ (f x : ℕ) where
  -- one slot: only its flag changes
  pub killed-but : (k : ℕ) (w : List ℕ) → k < f → But (3 * f) (4 * f) w (killed f x k w)
  unfolding killed
  killed-but k w l =
      by-test (holds x (face_at w k))
      (λ e. rw e (but-set (3 * f) (4 * f) w (lives_from f + k) 0 (omega arith) (omega arith)))
      (λ e. rw e (but-refl (3 * f) (4 * f) w))

  -- a face lives on if it isn't the one, or doesn't hold the point
  killed-lives : (k : ℕ) (w : List ℕ) → k < f → 4 * f ≤ length w → (j : ℕ) →
      lives f (killed f x k w) j ≡ (lives f w j && not (eqb k j && holds x (face_at w j)))
  unfolding killed
  killed-lives k w l long j =
      by-test (eqb k j)
      (λ e.
      let same : k ≡ j = eqb-true k j e in
      by-test (holds x (face_at w j))
      (λ h. rw (e, same, h, get_or-set_same w (lives_from f + j) 0 0 (omega arith)) (sym (and-false (lives f w j))))
      (λ h. rw (e, same, h) (sym (and-true (lives f w j)))))
      (λ e.
      let apart = eqb-false k j e in
      by-test (holds x (face_at w k))
      (λ h. rw (e, h, get_or-set_other w (lives_from f + k) (lives_from f + j) 0 0 (omega arith)) (sym (and-true (lives f w j))))
      (λ h. rw (e, h) (sym (and-true (lives f w j)))))

  -- over a list: those of the list that hold the point don't
  pub kill-lives : (ks w : List ℕ) → every (λ k. ltb k f) ks ≡ true → 4 * f ≤ length w → (j : ℕ) → j < f →
      lives f (in_turn (killed f x) ks w) j ≡ (lives f w j && not (some (λ k. eqb k j) ks && holds x (face_at w j)))
  unfolding in_turn some
  kill-lives [] w all long j l = sym (and-true (lives f w j))
  kill-lives (k ∷ ks) w all long j l =
      let here : k < f = ltb-true k f (every-head (λ i. ltb i f) k ks all) in
      let but = killed-but k w here in
      kill-lives ks (killed f x k w) (every-tail (λ i. ltb i f) k ks all) (omega arith) j l
      ∙ ap₂ (λ (b : Bool) (p : Face). b && not (some (λ i. eqb i j) ks && holds x p)) (killed-lives k w here long j) (face-flags but j l)
      ∙ two-kills (lives f w j) (eqb k j) (some (λ i. eqb i j) ks) (holds x (face_at w j))
