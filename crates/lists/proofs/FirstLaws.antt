-- The first of a list that passes a test, and whether there is one.
-- Assumes nothing.
use Prim.Native.Nat.{ℕ, zero, suc, ◌<◌, zero-le, suc-le-suc}
use native.Mathlib.Nat.{le_of_suc-le-suc, not-suc-le-zero}
use native.Mathlib.Omega.{arith}
use mathlib.Core.Path.{◌≡◌, refl, sym, ap, ◌∙◌}
use mathlib.Core.List.{List, [], ◌∷◌}
use mathlib.Core.Bool.{Bool, true, false, ◌||◌, cond}
use lib.Dec.{ltb, leb-zero, leb-suc-suc}
use lib.ListN.{length, get_or}
use Rattle.lists.specs.Lists.{some, first_of, FirstAt}
use Rattle.lists.proofs.EveryLaws.{some-from}

-- one passes exactly where the first that passes is before the end
one_more : (now later : Bool) (first n : ℕ) → later ≡ ltb first n → (now || later) ≡ ltb (cond now 0 (suc first)) (suc n)
one_more true later first n e = sym (leb-suc-suc 0 n ∙ leb-zero n)
one_more false later first n e = e ∙ sym (leb-suc-suc (suc first) n)

pub some-is-before-the-end : {A : Type 0} (test : A → Bool) (xs : List A) → some test xs ≡ ltb (first_of test xs) (length xs)
unfolding some first_of
some-is-before-the-end test [] = refl
some-is-before-the-end test (x ∷ xs) = one_more (test x) _ _ _ (some-is-before-the-end test xs)

-- ---- the first that passes, by place

module _ {A : Type 0} (test : A → Bool) (d x : A) (xs : List A) where
  -- the first of the list passes, or it fails and the first is among the others
  pub first-here : test x ≡ true → FirstAt test d (x ∷ xs) 0
  first-here e = record { within = suc-le-suc zero-le; passes = e; none_before = λ j (h : j < 0). absurd (omega arith) }

  none_yet : {k : ℕ} → test x ≡ false → FirstAt test d xs k → (j : ℕ) → j < suc k → test (get_or (x ∷ xs) j d) ≡ false
  none_yet e f zero h = e
  none_yet e f (suc j) h = f.none_before j (le_of_suc-le-suc h)

  pub first-there : {k : ℕ} → test x ≡ false → FirstAt test d xs k → FirstAt test d (x ∷ xs) (suc k)
  first-there e f = record { within = suc-le-suc f.within; passes = f.passes; none_before = none_yet e f }

-- where one passes, `first_of` is the place of the first
first_by : {A : Type 0} (test : A → Bool) (d x : A) (xs : List A) (b : Bool) {k : ℕ} → test x ≡ b → (b ≡ false → FirstAt test d xs k) → FirstAt test d (x ∷ xs) (cond b 0 (suc k))
first_by test d x xs true e f = first-here test d x xs e
first_by test d x xs false e f = first-there test d x xs e (f refl)

pub first-of : {A : Type 0} (test : A → Bool) (d : A) (xs : List A) → some test xs ≡ true → FirstAt test d xs (first_of test xs)
unfolding some first_of
first-of test d [] e = let z : ◌≡◌ {A = ℕ} 0 1 = cc in absurd (omega arith)
first-of test d (x ∷ xs) e = first_by test d x xs (test x) refl (λ (b : test x ≡ false). first-of test d xs (rw b at e))

-- and the place of the first is `first_of`
module _ {A : Type 0} (test : A → Bool) (d : A) where
  -- the first, where it is not at the head, is the first of the others
  pub first-later : (x : A) (xs : List A) {k : ℕ} → FirstAt test d (x ∷ xs) (suc k) → FirstAt test d xs k
  first-later x xs f = record { within = le_of_suc-le-suc f.within; passes = f.passes; none_before = λ j h. f.none_before (suc j) (suc-le-suc h) }

  pub first-place : (xs : List A) (k : ℕ) → FirstAt test d xs k → first_of test xs ≡ k
  unfolding first_of
  first-place [] k f = absurd (not-suc-le-zero f.within)
  first-place (x ∷ xs) zero f = rw f.passes
  first-place (x ∷ xs) (suc k) f =
      rw (f.none_before 0 (omega arith))
      (ap suc (first-place xs k (first-later x xs f)))

  -- so one passes
  pub first_some : (xs : List A) {k : ℕ} → FirstAt test d xs k → some test xs ≡ true
  first_some xs {k} f = some-from test d xs k f.within f.passes
