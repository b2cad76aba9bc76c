-- What is true of a tidy memory: what keeps it so, and that each live face is listed once at each of its points.
-- Assumes nothing.
use Prim.Native.Nat.{ℕ, ◌+◌, ◌*◌, ◌/◌, ◌≤◌, ◌<◌}
use native.Mathlib.Omega.{arith}
use mathlib.Core.Path.{◌≡◌, refl, sym, ap, fun_ext, ◌∙◌}
use mathlib.Core.List.{List}
use mathlib.Core.Bool.{Bool, true, ◌&&◌, cond}
use lib.Dec.{eqb}
use borrow.Author.Tests.{eq-eqb, eqb-true}
use Rattle.lists.specs.Lists.{sum, count, below}
use Rattle.walk.specs.Faces.{holds, proper, face_at}
use Rattle.memory.specs.Memory.{corner, lives, Unmarked, live_at}
use Rattle.lists.specs.Frames.{But}
use Rattle.mesh.specs.Clauses.Chains.{Tidy}
use Rattle.lists.proofs.CondLaws.{cond-swap, cond-implied, cond-within}
use Rattle.lists.proofs.BelowLaws.{sum-same-below, sum-single}
use Rattle.memory.proofs.FrameLaws.{lives-but, face-but}
use Rattle.mesh.proofs.ChainLaws.{chains-but}
use Rattle.mesh.proofs.FaceCorners.{corner-below, corners-faces}
use Rattle.memory.specs.Layout.{kinds_from, marks_from, stamps_from}

-- cells above the links change, and no mark is left
pub tidy-again : {v f lo hi : ℕ} {w w' : List ℕ} → kinds_from v f ≤ lo → But lo hi w w' → Unmarked v f w' → Tidy v f w → Tidy v f w'
tidy-again {v} {f} {lo} {hi} {w} {w'} above but unmarked t = record {
  room = omega arith;
  faces_proper = λ k l e. ap (proper v) (face-but but (omega arith) k l) ∙ t.faces_proper k l (sym (lives-but but (omega arith) k l) ∙ e);
  listed = t.listed;
  chains = chains-but above but t.chains;
  live_listed = λ c l e. t.live_listed c l (sym (lives-but but (omega arith) (c / 3) (omega arith)) ∙ e);
  unmarked = unmarked;
}

-- cells above the marks change
pub tidy-but : {v f lo hi : ℕ} {w w' : List ℕ} → stamps_from v f ≤ lo → But lo hi w w' → Tidy v f w → Tidy v f w'
tidy-but {v} {f} above but t = tidy-again (omega arith) but (λ x l. but.under (marks_from v f + x) (omega arith) ∙ t.unmarked x l) t

module _ {v f : ℕ} {w : List ℕ} (t : Tidy v f w) where
  -- a weight summed over the corners of live faces in a point's chain, and over the live faces that hold the point
  pub around : (x : ℕ) → x < v → (g : ℕ → ℕ) →
      sum (λ c. cond (lives f w (c / 3)) (g (c / 3)) 0) (t.chains.chain x) ≡ sum (λ k. cond (live_at f w x k) (g k) 0) (below f)
  around x l g =
      t.chains.sums x l (λ c. cond (lives f w (c / 3)) (g (c / 3)) 0)
      ∙ sum-same-below _ _ (3 * f) (λ c m. cond-within (t.listed c) (lives f w (c / 3)) (eqb (corner w c) x) (g (c / 3)) (t.live_listed c m))
      ∙ corners-faces v f w t.faces_proper x g

  -- Document 01, "True after every step": a live face is listed once at each of its points, and at no other.
  pub face-once : (k : ℕ) → k < f → lives f w k ≡ true → (x : ℕ) → x < v →
      count (λ c. eqb (c / 3) k) (t.chains.chain x) ≡ cond (holds x (face_at w k)) 1 0
  face-once k l live x m =
      ap (λ (g : ℕ → ℕ). sum g (t.chains.chain x))
      (fun_ext (λ c. cond-implied (eqb (c / 3) k) (lives f w (c / 3)) 1 (λ e. rw (eqb-true (c / 3) k e) live)))
      ∙ around x m (λ j. cond (eqb j k) 1 0)
      ∙ sum-same-below _ _ f (λ j n. cond-swap (live_at f w x j) (eqb j k) 1)
      ∙ sum-single (λ j. cond (live_at f w x j) 1 0) k f l
      ∙ ap (λ (b : Bool). cond (b && holds x (face_at w k)) 1 0) live

  -- and so it is by its corners: each is once in the chain of its point
  pub corner-once : (c : ℕ) → c < 3 * f → lives f w (c / 3) ≡ true → count (λ d. eqb d c) (t.chains.chain (corner w c)) ≡ 1
  corner-once c l live =
      t.chains.sums (corner w c) (corner-below v w c (t.faces_proper (c / 3) (omega arith) live)) (λ d. cond (eqb d c) 1 0)
      ∙ sum-same-below _ _ (3 * f) (λ d n. cond-swap (t.listed d && eqb (corner w d) (corner w c)) (eqb d c) 1)
      ∙ sum-single (λ d. cond (t.listed d && eqb (corner w d) (corner w c)) 1 0) c (3 * f) l
      ∙ rw (t.live_listed c l live, eq-eqb (corner w c) (corner w c) refl)
