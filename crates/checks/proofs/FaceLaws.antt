-- The faces looked at one by one: what is known at each, and that the first bad one decides.
use Prim.Native.Nat.{ℕ, suc, ◌+◌, ◌≤◌, ◌<◌}
use native.Mathlib.Nat.{le_of_eq, le_trans}
use native.Mathlib.Numerals.{add-one}
use native.Mathlib.Omega.{arith}
use mathlib.Core.Path.{◌≡◌, refl, sym, ap, ◌∙◌}
use mathlib.Core.List.{List}
use mathlib.Core.Bool.{Bool, true, false, cond}
use lib.ListN.{drop, drop_of_length-le}
use Rattle.walk.specs.Faces.{faces_of, face_at}
use Rattle.std.specs.Prelude.{Ok, Err}
use Rattle.meaning.specs.declared.Refusal.TheVariants.{PointOutside, PointTwice}
use Rattle.meaning.specs.Answers.{outside, doubled, face_verdict}
use Rattle.checks.proofs.SearchLaws.{length-faces, faces-from}
use Rattle.meaning.proofs.VerdictOrder.{decides, goes_on}

module _ (v f : ℕ) (numbers : List ℕ) where
  -- what is known where the faces before number k were proper: the faces from k on decide
  pub record Passed (k : ℕ) : Type 0 where
    pub within : k ≤ f
    pub decided : face_verdict v k (drop k (faces_of f numbers)) ≡ face_verdict v 0 (faces_of f numbers)

  -- at the first face
  pub none_passed : Passed 0
  none_passed = record { within = omega arith; decided = refl }

  -- face k decides by itself, or the faces after it do
  by-face : {k : ℕ} → Passed k → k < f →
      cond (outside v (face_at numbers k)) (Err (PointOutside k)) (cond (doubled (face_at numbers k)) (Err (PointTwice k)) (face_verdict v (suc k) (drop (suc k) (faces_of f numbers))))
      ≡ face_verdict v 0 (faces_of f numbers)
  unfolding face_verdict
  by-face {k} s h = sym (ap (face_verdict v k) (faces-from f numbers k h)) ∙ s.decided

  -- what the code found of face k: `out`, whether it names a point not below v, and `double`, whether it names one twice
  module _ {k : ℕ} {out : Bool} (s : Passed k) (h : k < f) (is-out : out ≡ outside v (face_at numbers k)) where
    -- it names a point not below v: 8
    pub eight : out ≡ true → Err (PointOutside k) ≡ face_verdict v 0 (faces_of f numbers)
    eight t = decides _ _ _ _ is-out t ∙ by-face s h

    -- it names only points below v, one of them twice: 9
    pub nine : out ≡ false → {double : Bool} → double ≡ doubled (face_at numbers k) → double ≡ true → Err (PointTwice k) ≡ face_verdict v 0 (faces_of f numbers)
    nine t is-double d = goes_on _ _ _ _ _ is-out t (decides _ _ _ _ is-double d) ∙ by-face s h

    -- it is proper: on to the next face
    pub one-more-passed : out ≡ false → {double : Bool} → double ≡ doubled (face_at numbers k) → double ≡ false → Passed (k + 1)
    one-more-passed t is-double d =
        record {
          within = omega arith;
          decided = rw (add-one k) (goes_on _ _ _ _ _ is-out t (goes_on _ _ _ _ _ is-double d refl) ∙ by-face s h);
        }

  -- past the last face
  pub all-passed : {k : ℕ} → Passed k → f ≤ k → Ok tt ≡ face_verdict v 0 (faces_of f numbers)
  unfolding face_verdict
  all-passed {k} s h =
      sym (ap (face_verdict v k) (drop_of_length-le (faces_of f numbers) (le_trans (le_of_eq (length-faces f numbers)) h))) ∙ s.decided
