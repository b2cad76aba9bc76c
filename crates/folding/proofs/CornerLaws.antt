-- Which corner of a slot's face is at a point.
-- Assumes nothing.
use Prim.Native.Nat.{ℕ, ◌+◌, ◌*◌, ◌/◌}
use native.Mathlib.Omega.{arith}
use mathlib.Core.Path.{◌≡◌, refl, sym, ◌∙◌}
use mathlib.Core.Logic.{◌≢◌}
use mathlib.Core.List.{List}
use mathlib.Core.Bool.{true, ◌&&◌}
use lib.Dec.{eqb}
use borrow.Author.Tests.{eqb-true, eqb-false, eq-eqb, ne_eqb}
use Rattle.walk.specs.Faces.{holds, proper, face_at}
use Rattle.lists.proofs.TestLaws.{by-test, clash}
use Rattle.walk.proofs.FaceLaws.{Corners, corners, at-corner, holds-a, holds-b, holds-c}
use Rattle.memory.specs.Memory.{corner}
use Rattle.folding.specs.Clauses.Steps.{corner_of}

-- a corner of a slot is its first, second or third
three : (P : ℕ → Type 0) (k c : ℕ) → c / 3 ≡ k → P (3 * k) → P (3 * k + 1) → P (3 * k + 2) → P c
three P k c slot first second third =
    by-test (eqb c (3 * k))
    (λ e. rw (eqb-true c (3 * k) e) first)
    (λ e.
    let not_first = eqb-false c (3 * k) e in
    by-test (eqb c (3 * k + 1))
    (λ d. rw (eqb-true c (3 * k + 1) d) second)
    (λ d.
    let not-second = eqb-false c (3 * k + 1) d in
    let last : c ≡ 3 * k + 2 = omega arith in
    rw last third))

-- two corners of a proper face are at different points
corners-apart : (v : ℕ) (w : List ℕ) (k c d : ℕ) → proper v (face_at w k) ≡ true → c / 3 ≡ k → d / 3 ≡ k → c ≢ d → corner w c ≢ corner w d
corners-apart v w k c d whole at_c at-d =
    let q : Corners v (face_at w k) = corners v (face_at w k) whole in
    three (λ c. c ≢ d → corner w c ≢ corner w d) k c at_c
    (three (λ d. 3 * k ≢ d → corner w (3 * k) ≢ corner w d) k d at-d
    (λ n e. n refl) (λ n e. q.a_b e) (λ n e. q.c_a (sym e)))
    (three (λ d. 3 * k + 1 ≢ d → corner w (3 * k + 1) ≢ corner w d) k d at-d
    (λ n e. q.a_b (sym e)) (λ n e. n refl) (λ n e. q.b_c e))
    (three (λ d. 3 * k + 2 ≢ d → corner w (3 * k + 2) ≢ corner w d) k d at-d
    (λ n e. q.c_a e) (λ n e. q.b_c (sym e)) (λ n e. n refl))

-- the corners of a slot, read and tried one after another
module _ (w : List ℕ) (k x : ℕ) {a : ℕ} (first : a ≡ corner w (3 * k)) where
  pub corner-first : a ≡ x → 3 * k ≡ corner_of w k x
  unfolding corner_of
  corner-first e = rw (← first, eq-eqb a x e)

  module _ (apart : a ≢ x) {b : ℕ} (second : b ≡ corner w (3 * k + 1)) where
    pub corner-second : b ≡ x → 3 * k + 1 ≡ corner_of w k x
    unfolding corner_of
    corner-second e = rw (← first, ← second, ne_eqb a x apart, eq-eqb b x e)

    pub corner-third : b ≢ x → 3 * k + 2 ≡ corner_of w k x
    unfolding corner_of
    corner-third e = rw (← first, ← second, ne_eqb a x apart, ne_eqb b x e)

-- the corner that is found is one of the slot's
pub corner-slot : (w : List ℕ) (k x : ℕ) → corner_of w k x / 3 ≡ k
unfolding corner_of
corner-slot w k x =
    by-test (eqb (corner w (3 * k)) x)
    (λ e. rw e (omega arith))
    (λ e. by-test (eqb (corner w (3 * k + 1)) x) (λ d. rw (e, d) (omega arith)) (λ d. rw (e, d) (omega arith)))

-- it hangs on the slot's corners
pub corner-same : (w w' : List ℕ) (k x : ℕ) → ((c : ℕ) → c / 3 ≡ k → corner w' c ≡ corner w c) → corner_of w' k x ≡ corner_of w k x
unfolding corner_of
corner-same w w' k x same = rw (same (3 * k) (omega arith), same (3 * k + 1) (omega arith))

module _ (v : ℕ) (w : List ℕ) (x c : ℕ) (whole : proper v (face_at w (c / 3)) ≡ true) where
  -- and is at the point if the face holds it
  pub corner-at-point : holds x (face_at w (c / 3)) ≡ true → corner w (corner_of w (c / 3) x) ≡ x
  unfolding corner_of
  corner-at-point held =
      let k = c / 3 in
      by-test (eqb (corner w (3 * k)) x)
      (λ e. rw e (eqb-true (corner w (3 * k)) x e))
      (λ e. by-test (eqb (corner w (3 * k + 1)) x)
      (λ d. rw (e, d) (eqb-true (corner w (3 * k + 1)) x d))
      (λ d. rw (e, d)
      (at-corner x (face_at w k) held
      (λ p. absurd (eqb-false (corner w (3 * k)) x e (sym p)))
      (λ p. absurd (eqb-false (corner w (3 * k + 1)) x d (sym p)))
      (λ p. sym p))))

  -- a point at a corner is held
  corner-held : corner w c ≡ x → holds x (face_at w (c / 3)) ≡ true
  corner-held =
      three (λ d. corner w d ≡ x → holds x (face_at w (c / 3)) ≡ true) (c / 3) c refl
      (λ e. holds-a x (face_at w (c / 3)) (sym e)) (λ e. holds-b x (face_at w (c / 3)) (sym e)) (λ e. holds-c x (face_at w (c / 3)) (sym e))

  -- so the corner found in a face that holds the point is the one at the point
  pub corner-found : (holds x (face_at w (c / 3)) && eqb c (corner_of w (c / 3) x)) ≡ eqb (corner w c) x
  corner-found =
      by-test (holds x (face_at w (c / 3)))
      (λ held. by-test (eqb c (corner_of w (c / 3) x))
      (λ e.
      let at : corner w c ≡ x = rw (← (eqb-true c (corner_of w (c / 3) x) e)) at (corner-at-point held) in
      rw (held, e, eq-eqb (corner w c) x at))
      (λ e.
      rw (held, e)
      (sym (ne_eqb (corner w c) x
      (λ p. corners-apart v w (c / 3) c (corner_of w (c / 3) x) whole refl (corner-slot w (c / 3) x)
      (eqb-false c (corner_of w (c / 3) x) e) (p ∙ sym (corner-at-point held)))))))
      (λ none. rw none (sym (ne_eqb (corner w c) x (λ p. clash (corner-held p) none))))
