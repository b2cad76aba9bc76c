-- A list in two parts, those that pass a test and those that don't: what sums and bags say of them.
-- Assumes nothing.
use Prim.Native.Nat.{ℕ, ◌+◌}
use native.Mathlib.Omega.{arith}
use mathlib.Core.Path.{◌≡◌, refl, sym, ap₂, ◌∙◌}
use mathlib.Core.List.{List, [], ◌∷◌, ◌++◌}
use mathlib.Core.Bool.{Bool, true, false, not, cond, true≢false}
use mathlib.Mathlib.Data.Bool.Basic.{and_intro}
use Rattle.lists.specs.Lists.{sum, those, every, SameBag}
use Rattle.lists.proofs.TestLaws.{by-test}
use Rattle.lists.proofs.SumLaws.{sum-append, sum-those, sum_same, sum-add}
use Rattle.lists.proofs.EveryLaws.{every-head, every-tail}

-- one weight, on one side or on the other
one_side : (b : Bool) (k : ℕ) → k ≡ cond (not b) k 0 + cond b k 0
one_side true k = omega arith
one_side false k = omega arith

module _ {A : Type 0} where
  -- what follows from two tests that every one passes
  pub every_two : (one two both : A → Bool) → ((x : A) → one x ≡ true → two x ≡ true → both x ≡ true) →
      (xs : List A) → every one xs ≡ true → every two xs ≡ true → every both xs ≡ true
  unfolding every
  every_two one two both step [] a b = refl
  every_two one two both step (x ∷ xs) a b =
      and_intro
      (step x (every-head one x xs a) (every-head two x xs b))
      (every_two one two both step xs (every-tail one x xs a) (every-tail two x xs b))

  -- where no one passes, what passes weighs nothing
  pub sum-failed : (test : A → Bool) (g : A → ℕ) (xs : List A) → every (λ x. not (test x)) xs ≡ true → sum (λ x. cond (test x) (g x) 0) xs ≡ 0
  unfolding sum
  sum-failed test g [] fail = refl
  sum-failed test g (x ∷ xs) fail =
      let first = every-head (λ y. not (test y)) x xs fail in
      let rest = sum-failed test g xs (every-tail (λ y. not (test y)) x xs fail) in
      by-test (test x) (λ e. absurd (true≢false (sym (rw e at first)))) (λ e. rw (e, rest))

  -- where every one passes, it weighs all
  pub sum-passed : (test : A → Bool) (g : A → ℕ) (xs : List A) → every test xs ≡ true → sum (λ x. cond (test x) (g x) 0) xs ≡ sum g xs
  unfolding sum
  sum-passed test g [] pass = refl
  sum-passed test g (x ∷ xs) pass = ap₂ ◌+◌ (rw (every-head test x xs pass)) (sum-passed test g xs (every-tail test x xs pass))

  -- a sum in two parts
  pub sum-parts : (test : A → Bool) (g : A → ℕ) (xs : List A) → sum g xs ≡ sum (λ x. cond (not (test x)) (g x) 0) xs + sum (λ x. cond (test x) (g x) 0) xs
  sum-parts test g xs =
      sum_same g (λ x. cond (not (test x)) (g x) 0 + cond (test x) (g x) 0) (λ x. one_side (test x) (g x)) xs
      ∙ sum-add (λ x. cond (not (test x)) (g x) 0) (λ x. cond (test x) (g x) 0) xs

  -- and the list itself
  pub bag-parts : (test : A → Bool) (xs : List A) → SameBag xs (those (λ x. not (test x)) xs ++ those test xs)
  bag-parts test xs = record {
    sums = λ g.
        sum-parts test g xs
        ∙ sym (sum-append g (those (λ x. not (test x)) xs) (those test xs) ∙ ap₂ ◌+◌ (sum-those g (λ x. not (test x)) xs) (sum-those g test xs));
  }
