-- Faces with new numbers: different points have different ones, two points share as many faces under them, and the faces are read back from the numbers written.
-- Assumes nothing.
use Prim.Native.Nat.{ℕ, zero, suc, ◌+◌, ◌*◌, ◌<◌}
use native.Mathlib.Nat.{le_of_suc-le-suc, le_of_eq, not-suc-le-zero}
use native.Mathlib.Omega.{arith}
use mathlib.Core.Path.{◌≡◌, refl, sym, ap, ◌∙◌}
use mathlib.Core.Logic.{◌≢◌}
use mathlib.Core.List.{List, [], ◌∷◌, map}
use mathlib.Core.Bool.{true, ◌&&◌, ◌||◌, cond}
use borrow.Author.Tests.{eqb-true, eqb-false, eq-eqb, ne_eqb}
use lib.Dec.{eqb}
use lib.ListN.{length, get_or, length-map}
use lib.Seq.{ext_get_or}
use Rattle.walk.specs.declared.Face.{Face}
use Rattle.lists.specs.Lists.{every}
use Rattle.lists.proofs.TestLaws.{by-outcome, both_true}
use Rattle.lists.proofs.SumLaws.{sum-map, sum-le}
use Rattle.lists.proofs.BelowLaws.{length-each, get_d-each}
use Rattle.walk.specs.Faces.{holds, both, shared, face_at, faces_of}
use Rattle.walk.specs.Output.{used, place_in, renumbered, numbers_of}
use Rattle.walk.proofs.PlaceLaws.{has, get_d-place}
use Rattle.walk.proofs.RenumberLaws.{corners, used-has, placed}

-- ---- numbers in a list

module _ (seen : List ℕ) (x y : ℕ) (x-in : has seen x ≡ true) (y-in : has seen y ≡ true) where
  -- different ones have different places
  pub place-differ : x ≢ y → place_in seen x ≢ place_in seen y
  place-differ other e = other (sym (get_d-place 0 seen x x-in) ∙ ap (λ k. get_or seen k 0) e ∙ get_d-place 0 seen y y-in)

  place_same : eqb (place_in seen x) (place_in seen y) ≡ eqb x y
  place_same =
      by-outcome (λ b. eqb (place_in seen x) (place_in seen y) ≡ b) (eqb x y)
      (λ e. eq-eqb (place_in seen x) (place_in seen y) (ap (place_in seen) (eqb-true x y e)))
      (λ e. ne_eqb (place_in seen x) (place_in seen y) (place-differ (eqb-false x y e)))

-- ---- faces with the places of their numbers

module _ (seen : List ℕ) where
  -- a face holds a point's place where it holds the point
  holds-placed : (x : ℕ) (f : Face) → has seen x ≡ true → corners (has seen) f ≡ true → holds (place_in seen x) (placed seen f) ≡ holds x f
  holds-placed x f x-in all =
      let ab = both_true (has seen f.a && has seen f.b) (has seen f.c) all in
      let at = both_true (has seen f.a) (has seen f.b) ab.0 in
      λ t. place_same seen x f.a x-in at.0 t || place_same seen x f.b x-in at.1 t || place_same seen x f.c x-in ab.1 t

  -- so two points share as many faces
  pub shared-placed : (x y : ℕ) (fs : List Face) → has seen x ≡ true → has seen y ≡ true → every (corners (has seen)) fs ≡ true →
      shared (map (placed seen) fs) (place_in seen x) (place_in seen y) ≡ shared fs x y
  shared-placed x y fs x-in y-in all =
      let each : (f : Face) → corners (has seen) f ≡ true → ◌≡◌ {A = ℕ} (cond (both (place_in seen x) (place_in seen y) (placed seen f)) 1 0) (cond (both x y f) 1 0) =
      λ f e t. cond (holds-placed x f x-in e t && holds-placed y f y-in e t) 1 0 in
      rw sum-map
      (omega (
        arith,
        sum-le (corners (has seen)) (λ f e. le_of_eq (each f e)) fs all,
        sum-le (corners (has seen)) (λ f e. le_of_eq (sym (each f e))) fs all,
      ))

-- the faces renumbered: two points share as many
pub shared-renumbered : (fs : List Face) (x y : ℕ) → has (used [] fs) x ≡ true → has (used [] fs) y ≡ true →
    shared (renumbered fs) (place_in (used [] fs) x) (place_in (used [] fs) y) ≡ shared fs x y
unfolding renumbered
shared-renumbered fs x y x-in y-in = shared-placed (used [] fs) x y fs x-in y-in (used-has [] fs)

pub length-renumbered : (fs : List Face) → length (renumbered fs) ≡ length fs
unfolding renumbered
length-renumbered fs = length-map fs (placed (used [] fs))

-- ---- the numbers written, read back

face-back : (fs : List Face) (k : ℕ) (past : Face) → k < length fs → face_at (numbers_of fs) k ≡ get_or fs k past
unfolding numbers_of
face-back [] k past h = absurd (not-suc-le-zero h)
face-back (f ∷ fs) zero past h = refl
face-back (f ∷ fs) (suc k) past h =
    let all = numbers_of (f ∷ fs) in
    let first : 3 * suc k ≡ suc (suc (suc (3 * k))) = omega arith in
    let second : 3 * suc k + 1 ≡ suc (suc (suc (3 * k + 1))) = omega arith in
    let third : 3 * suc k + 2 ≡ suc (suc (suc (3 * k + 2))) = omega arith in
    (λ t. record { a = get_or all (first t) 0; b = get_or all (second t) 0; c = get_or all (third t) 0 })
    ∙ face-back fs k past (le_of_suc-le-suc h)

pub faces_back : (fs : List Face) → faces_of (length fs) (numbers_of fs) ≡ fs
faces_back fs =
    let past = face_at [] 0 in
    let long = length-each (face_at (numbers_of fs)) (length fs) in
    ext_get_or past (faces_of (length fs) (numbers_of fs)) fs long
    (λ k h.
    let small : k < length fs = omega (arith, long) in
    get_d-each (face_at (numbers_of fs)) (length fs) k past small ∙ face-back fs k past small)
