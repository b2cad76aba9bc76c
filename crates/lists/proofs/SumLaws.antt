-- Sums over any list: how they follow the list, and how they follow the weight.
-- Assumes nothing.
use Prim.Native.Nat.{ℕ, ◌+◌, ◌*◌, ◌≤◌, ◌<◌, zero-le}
use native.Mathlib.Nat.{le_refl, not-suc-le-zero, add-le-add}
use native.Mathlib.Omega.{arith}
use mathlib.Core.Path.{◌≡◌, refl, sym, ap₂, ◌∙◌}
use mathlib.Core.List.{List, [], ◌∷◌, ◌++◌, map, flat_map}
use mathlib.Core.Bool.{Bool, true, false, cond, false≢true}
use mathlib.Mathlib.Data.Bool.Basic.{and_elim_left, and_elim_right}
use lib.Dec.{ltb}
use lib.ListN.{length}
use borrow.Author.Tests.{ltb-true, ltb-false}
use Rattle.lists.specs.Lists.{sum, those, every, some, without}
use Rattle.lists.proofs.TestLaws.{by-test}

module _ {A : Type 0} where
  -- ---- how sums follow the list

  pub sum-append : (g : A → ℕ) (xs ys : List A) → sum g (xs ++ ys) ≡ sum g xs + sum g ys
  unfolding sum
  sum-append g [] ys = omega arith
  sum-append g (x ∷ xs) ys = omega (arith, sum-append g xs ys)

  -- one element that may be there or not
  pub one_kept : (g : A → ℕ) (b : Bool) (x : A) (xs : List A) → sum g (cond b (x ∷ xs) xs) ≡ cond b (g x) 0 + sum g xs
  unfolding sum
  one_kept g true x xs = refl
  one_kept g false x xs = omega arith

  pub sum-those : (g : A → ℕ) (test : A → Bool) (xs : List A) → sum g (those test xs) ≡ sum (λ x. cond (test x) (g x) 0) xs
  unfolding sum those
  sum-those g test [] = refl
  sum-those g test (x ∷ xs) = one_kept g (test x) x (those test xs) ∙ rw (sum-those g test xs)

  -- where all that pass weigh the same, the one taken out weighs that
  pub sum-without : (g : A → ℕ) (test : A → Bool) (n : ℕ) → ((x : A) → test x ≡ true → g x ≡ n) →
      (xs : List A) → some test xs ≡ true → sum g (without test xs) + n ≡ sum g xs
  unfolding sum some without
  sum-without g test n weigh [] h = absurd (false≢true h)
  sum-without g test n weigh (x ∷ xs) h =
      by-test (test x)
      (λ e. rw e (omega (arith, weigh x e)))
      (λ e. rw e (omega (arith, sum-without g test n weigh xs (rw e at h))))

  -- what is taken out never makes a sum larger
  pub sum-without-le : (g : A → ℕ) (test : A → Bool) (xs : List A) → sum g (without test xs) ≤ sum g xs
  unfolding sum without
  sum-without-le g test [] = zero-le
  sum-without-le g test (x ∷ xs) =
      let rest = sum-without-le g test xs in
      by-test (test x) (λ t. rw t (omega arith)) (λ t. rw t (omega arith))

  -- ---- how sums follow the weight

  pub sum_same : (f g : A → ℕ) → ((x : A) → f x ≡ g x) → (xs : List A) → sum f xs ≡ sum g xs
  unfolding sum
  sum_same f g same [] = refl
  sum_same f g same (x ∷ xs) = ap₂ ◌+◌ (same x) (sum_same f g same xs)

  pub sum_mono : (f g : A → ℕ) → ((x : A) → f x ≤ g x) → (xs : List A) → sum f xs ≤ sum g xs
  unfolding sum
  sum_mono f g le [] = le_refl 0
  sum_mono f g le (x ∷ xs) = add-le-add (le x) (sum_mono f g le xs)

  pub sum-add : (f g : A → ℕ) (xs : List A) → sum (λ x. f x + g x) xs ≡ sum f xs + sum g xs
  unfolding sum
  sum-add f g [] = refl
  sum-add f g (x ∷ xs) = omega (arith, sum-add f g xs)

  pub sum-zero : (xs : List A) → sum (λ x. 0) xs ≡ 0
  unfolding sum
  sum-zero [] = refl
  sum-zero (x ∷ xs) = omega (arith, sum-zero xs)

  pub sum-length : (xs : List A) → sum (λ x. 1) xs ≡ length xs
  unfolding sum
  sum-length [] = refl
  sum-length (x ∷ xs) = omega (arith, sum-length xs)

  -- one weight at each
  pub sum-times : (k : ℕ) (xs : List A) → sum (λ x. k) xs ≡ k * length xs
  unfolding sum
  sum-times k [] = omega arith
  sum-times k (x ∷ xs) = let rest = sum-times k xs in omega arith

  -- where every one passes a test, a weight is at most another if it is so for all that pass
  pub sum-le :
      {g h : A → ℕ} (test : A → Bool) → ((x : A) → test x ≡ true → g x ≤ h x)
      → (xs : List A) → every test xs ≡ true → sum g xs ≤ sum h xs
  unfolding sum every
  sum-le test less [] all = zero-le
  sum-le test less (x ∷ xs) all = add-le-add (less x (and_elim_left (test x) (every test xs) all)) (sum-le test less xs (and_elim_right (test x) (every test xs) all))

  -- a sum above 0 has one above 0, which passes what every one passes
  pub witness :
      (test : A → Bool) (g : A → ℕ) (xs : List A) → every test xs ≡ true → 0 < sum g xs
      → (x : A) × (test x ≡ true) × (0 < g x)
  unfolding sum every
  witness test g [] all h = absurd (not-suc-le-zero h)
  witness test g (x ∷ xs) all h =
      by-test (ltb 0 (g x))
      (λ t. (x, and_elim_left (test x) (every test xs) all, ltb-true _ _ t))
      (λ t. witness test g xs (and_elim_right (test x) (every test xs) all) (omega (arith, ltb-false 0 (g x) t)))

-- ---- from one list to another

module _ {A B : Type 0} where
  pub sum-map : (g : B → ℕ) (f : A → B) (xs : List A) → sum g (map f xs) ≡ sum (λ x. g (f x)) xs
  unfolding sum
  sum-map g f [] = refl
  sum-map g f (x ∷ xs) = rw (sum-map g f xs)

  pub sum-flat_map : (g : B → ℕ) (f : A → List B) (xs : List A) → sum g (flat_map f xs) ≡ sum (λ x. sum g (f x)) xs
  unfolding sum flat_map
  sum-flat_map g f [] = refl
  sum-flat_map g f (x ∷ xs) = sum-append g (f x) (flat_map f xs) ∙ rw (sum-flat_map g f xs)

  -- a sum of sums, either way round
  pub sum-swap : (h : A → B → ℕ) (xs : List A) (ys : List B) → sum (λ x. sum (h x) ys) xs ≡ sum (λ y. sum (λ x. h x y) xs) ys
  unfolding sum
  sum-swap h [] ys = sym (sum-zero ys)
  sum-swap h (x ∷ xs) ys = rw (sum-swap h xs ys) (sym (sum-add (h x) (λ y. sum (λ x. h x y) xs) ys))
