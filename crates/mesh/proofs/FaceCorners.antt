-- From corners to faces: a live face has three distinct points, so it holds a point at one corner or at none.
-- Assumes nothing.
use Prim.Native.Nat.{ℕ, ◌+◌, ◌*◌, ◌/◌, ◌<◌}
use native.Mathlib.Omega.{arith}
use mathlib.Core.Path.{◌≡◌, refl, ◌∙◌}
use mathlib.Core.Logic.{◌≢◌}
use mathlib.Core.List.{List}
use mathlib.Core.Bool.{true, ◌&&◌, cond}
use lib.Dec.{eqb}
use borrow.Author.Tests.{eqb-true, eqb-false}
use Rattle.walk.specs.declared.Face.{Face}
use Rattle.lists.specs.Lists.{sum, below}
use Rattle.walk.specs.Faces.{holds, proper, face_at}
use Rattle.memory.specs.Memory.{corner, lives, Proper, live_at}
use Rattle.lists.proofs.TestLaws.{by-outcome, eqb-sym}
use Rattle.walk.proofs.FaceLaws.{Corners, corners, held-once}
use Rattle.lists.proofs.BelowLaws.{sum-same-below, sum-threes}

-- the point of a corner of a proper face
pub corner-below : (v : ℕ) (w : List ℕ) (c : ℕ) → proper v (face_at w (c / 3)) ≡ true → corner w c < v
corner-below v w c h =
    let p : Corners v (face_at w (c / 3)) = corners v (face_at w (c / 3)) h in
    by-outcome (λ b. corner w c < v) (eqb c (3 * (c / 3)))
    (λ a. rw (eqb-true c (3 * (c / 3)) a) p.a_below)
    (λ a.
    let not_a : c ≢ 3 * (c / 3) = eqb-false c (3 * (c / 3)) a in
    by-outcome (λ b. corner w c < v) (eqb c (3 * (c / 3) + 1))
    (λ b. rw (eqb-true c (3 * (c / 3) + 1) b) p.b_below)
    (λ b.
    let not-b : c ≢ 3 * (c / 3) + 1 = eqb-false c (3 * (c / 3) + 1) b in
    let at_c : c ≡ 3 * (c / 3) + 2 = omega arith in
    rw at_c p.c_below))

-- a weight at each corner that is at x is the weight of the face, if it holds x
one-corner : (v : ℕ) (p : Face) (x n : ℕ) → proper v p ≡ true →
    cond (eqb p.a x) n 0 + cond (eqb p.b x) n 0 + cond (eqb p.c x) n 0 ≡ cond (holds x p) n 0
one-corner v p x n h = rw (eqb-sym p.a x, eqb-sym p.b x, eqb-sym p.c x) (held-once v p x n h)

-- a weight summed over the corners of live faces that are at x, and over the live faces that hold x
pub corners-faces : (v f : ℕ) (w : List ℕ) → Proper v f w → (x : ℕ) (g : ℕ → ℕ) →
    sum (λ c. cond (lives f w (c / 3) && eqb (corner w c) x) (g (c / 3)) 0) (below (3 * f))
    ≡ sum (λ k. cond (live_at f w x k) (g k) 0) (below f)
corners-faces v f w all x g =
    sum-threes (λ c. cond (lives f w (c / 3) && eqb (corner w c) x) (g (c / 3)) 0) f
    ∙ sum-same-below _ _ f (λ k l.
    let at_a : 3 * k / 3 ≡ k = omega arith in
    let at_b : (3 * k + 1) / 3 ≡ k = omega arith in
    let at_c : (3 * k + 2) / 3 ≡ k = omega arith in
    rw (at_a, at_b, at_c)
    (by-outcome
    (λ b.
    cond (b && eqb (corner w (3 * k)) x) (g k) 0 + cond (b && eqb (corner w (3 * k + 1)) x) (g k) 0
    + cond (b && eqb (corner w (3 * k + 2)) x) (g k) 0
    ≡ cond (b && holds x (face_at w k)) (g k) 0)
    (lives f w k) (λ e. one-corner v (face_at w k) x (g k) (all k l e)) (λ e. refl)))
