-- The search for the first of a list that passes a test, and the faces of a list of point numbers, by their place.
use Prim.Native.Nat.{ℕ, suc, ◌<◌}
use native.Mathlib.Omega.{arith}
use mathlib.Core.Path.{◌≡◌, refl, ap, ◌∙◌}
use mathlib.Core.List.{List, [], ◌∷◌}
use mathlib.Core.Bool.{Bool, cond}
use lib.ListN.{length, get_or, drop}
use lib.Seq.{drop-cons}
use Rattle.walk.specs.declared.Face.{Face}
use Rattle.std.specs.Prelude.{Some, None, position}
use Rattle.std.specs.List.{position_or_len}
use Rattle.lists.specs.Lists.{some, first_of}
use Rattle.lists.proofs.TestLaws.{by-test}
use Rattle.lists.proofs.FirstLaws.{some-is-before-the-end}
use Rattle.walk.specs.Faces.{faces_of, face_at}
use Rattle.lists.proofs.BelowLaws.{length-each, get_d-each}

-- ---- the search

-- std's word for the place of the first says the same
prefix-is : {A : Type 0} (test : A → Bool) (xs : List A) → position_or_len test xs ≡ first_of test xs
unfolding first_of
prefix-is test [] = refl
prefix-is test (x ∷ xs) = by-test (test x) (λ t. rw t) (λ t. rw (t, prefix-is test xs) (omega arith))

pub position-is : {A : Type 0} (test : A → Bool) (xs : List A) → position test xs ≡ cond (some test xs) (Some (first_of test xs)) None
position-is test xs = rw (prefix-is test xs, some-is-before-the-end test xs)

-- ---- faces by their place

module _ (f : ℕ) (numbers : List ℕ) where
  -- how many faces
  pub length-faces : length (faces_of f numbers) ≡ f
  length-faces = length-each (face_at numbers) f

  -- face number k
  pub face-in : (k : ℕ) → k < f → get_or (faces_of f numbers) k (face_at numbers 0) ≡ face_at numbers k
  face-in k h = get_d-each (face_at numbers) f k (face_at numbers 0) h

  -- the faces from number k on
  pub faces-from : (k : ℕ) → k < f → drop k (faces_of f numbers) ≡ face_at numbers k ∷ drop (suc k) (faces_of f numbers)
  faces-from k h =
      let l : k < length (faces_of f numbers) = rw length-faces h in
      drop-cons (faces_of f numbers) k (face_at numbers 0) l ∙ ap (λ (x : Face). x ∷ drop (suc k) (faces_of f numbers)) (face-in k h)
