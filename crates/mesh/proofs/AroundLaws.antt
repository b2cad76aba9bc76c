-- The faces around a point, from slots in the memory to the live faces of the mesh.
-- Assumes nothing.
use Prim.Native.Nat.{ℕ, ◌+◌, ◌*◌, ◌≤◌, ◌<◌}
use native.Mathlib.Omega.{arith}
use mathlib.Core.Path.{◌≡◌, sym, ap, ◌∙◌, refl}
use mathlib.Core.List.{List}
use mathlib.Core.Bool.{Bool, ◌&&◌, cond, true}
use lib.Dec.{ltb}
use lib.ListN.{get_or, length}
use borrow.Author.Tests.{lt-ltb}
use Rattle.walk.specs.declared.Face.{Face}
use Rattle.lists.specs.Lists.{sum, those, below, stretch, every}
use Rattle.walk.specs.Faces.{holds, face_at, proper}
use Rattle.memory.specs.Memory.{lives, live_faces, live_at, Proper}
use Rattle.lists.specs.Frames.{But}
use Rattle.mesh.specs.Clauses.Around.{Gathered}
use Rattle.lists.proofs.CondLaws.{cond-and, cond-self}
use Rattle.lists.proofs.SumLaws.{sum-map, sum-those, sum-length}
use Rattle.lists.proofs.BelowLaws.{sum-same-below, sum-none, sum_ones, count-below-most, kept_same, map-same-below}
use Rattle.lists.proofs.EveryLaws.{every-counted}
use Rattle.memory.proofs.FrameLaws.{lives-but, face-but, live-at-but}
use Rattle.lists.proofs.TestLaws.{by-outcome}

-- a change above the flags leaves the live faces
pub live-faces-but : (f : ℕ) {lo hi : ℕ} {w w' : List ℕ} → But lo hi w w' → 4 * f ≤ lo → live_faces f w' ≡ live_faces f w
unfolding live_faces
live-faces-but f {lo} {hi} {w} {w'} but above =
    kept_same (face_at w') (face_at w) (lives f w') (lives f w) f (lives-but but above) (face-but but above)

-- a weight summed over the live faces is summed over their slots
pub live-sums : (f : ℕ) (w : List ℕ) (g : Face → ℕ) → sum g (live_faces f w) ≡ sum (λ k. cond (lives f w k) (g (face_at w k)) 0) (below f)
unfolding live_faces
live-sums f w g = sum-map g (face_at w) (those (lives f w) (below f)) ∙ sum-those (λ k. g (face_at w k)) (lives f w) (below f)

-- there are at most f of them
pub live-few : (f : ℕ) (w : List ℕ) → length (live_faces f w) ≤ f
live-few f w = omega (arith, sum-length (live_faces f w), live-sums f w (λ x. 1), count-below-most (lives f w) f)

-- and each has three distinct points below v
pub live-proper : (v f : ℕ) (w : List ℕ) → Proper v f w → every (proper v) (live_faces f w) ≡ true
live-proper v f w good =
    every-counted (proper v) (live_faces f w)
    (live-sums f w (λ x. cond (proper v x) 0 1)
    ∙ sum-none _ f (λ k l. by-outcome (λ (b : Bool). b ≡ lives f w k → ◌≡◌ {A = ℕ} (cond b (cond (proper v (face_at w k)) 0 1) 0) 0) (lives f w k)
    (λ e s. rw (good k l e)) (λ e s. refl) refl))

-- ---- a list of slots

-- a weight summed over it is summed over its places
pub sum-slots : (g : ℕ → ℕ) (w : List ℕ) (base n : ℕ) → sum g (stretch w base n) ≡ sum (λ i. g (get_or w (base + i) 0)) (below n)
sum-slots g w base n = sum-map g (λ i. get_or w (base + i) 0) (below n)

-- the sums say it all: how many there are, and that each is a live face that holds x
pub gathered-by : (v f : ℕ) (w : List ℕ) (x base n : ℕ) →
    ((g : ℕ → ℕ) → sum g (stretch w base n) ≡ sum (λ k. cond (live_at f w x k) (g k) 0) (below f)) → Gathered v f w x base n
gathered-by v f w x base n sums = record {
  few = omega (arith, sums (λ k. 1), sum-slots (λ k. 1) w base n, sum_ones n, count-below-most (λ k. live_at f w x k) f);
  slots_live =
      every-counted (λ k. ltb k f && live_at f w x k) (stretch w base n)
      (sums (λ k. cond (ltb k f && live_at f w x k) 0 1) ∙ sum-none _ f (λ k l. rw (lt-ltb k f l) (cond-self (live_at f w x k))));
  sums = sums;
}

-- they stay while the list and the faces stay
pub gathered-but : {v f lo hi : ℕ} {w w' : List ℕ} {x base n : ℕ} → But lo hi w w' → 4 * f ≤ lo →
    ((i : ℕ) → i < n → get_or w' (base + i) 0 ≡ get_or w (base + i) 0) → Gathered v f w x base n → Gathered v f w' x base n
gathered-but {v} {f} {lo} {hi} {w} {w'} {x} {base} {n} but above same h =
    gathered-by v f w' x base n (λ g.
    ap (sum g) (map-same-below (λ i. get_or w' (base + i) 0) (λ i. get_or w (base + i) 0) n same)
    ∙ h.sums g
    ∙ sum-same-below _ _ f (λ k l. ap (λ (b : Bool). cond b (g k) 0) (sym (live-at-but but above k l x))))

-- a weight summed over the gathered faces is summed over the live faces that hold the point
pub gathered-sums : {v f : ℕ} {w : List ℕ} {x base n : ℕ} → Gathered v f w x base n → (g : Face → ℕ) →
    sum (λ k. g (face_at w k)) (stretch w base n) ≡ sum (λ p. cond (holds x p) (g p) 0) (live_faces f w)
gathered-sums {v} {f} {w} {x} {base} {n} h g =
    h.sums (λ k. g (face_at w k))
    ∙ sum-same-below _ _ f (λ k l. cond-and (lives f w k) (holds x (face_at w k)) (g (face_at w k)))
    ∙ sym (live-sums f w (λ p. cond (holds x p) (g p) 0))
