-- The lowest number of a list that passes a test: none below it passes, and where it isn't the bound it is one of the list and passes.
-- Assumes nothing.
use Prim.Native.Nat.{ℕ, ◌+◌, ◌≤◌}
use native.Mathlib.Omega.{arith}
use mathlib.Core.Path.{◌≡◌, refl, ap, ◌∙◌}
use mathlib.Core.Logic.{◌⊎◌, inl, inr, ⊎_elim}
use mathlib.Core.List.{List, [], ◌∷◌, ◌++◌}
use mathlib.Core.Bool.{Bool, true, ◌&&◌, cond, and-false}
use mathlib.Mathlib.Data.Bool.Basic.{and_elim_right}
use lib.Dec.{ltb}
use lib.ListN.{get_or}
use borrow.Author.Tests.{ltb-true, ltb-false, le-ltb}
use Rattle.lists.specs.Lists.{sum, count, every, below, stretch}
use Rattle.lists.proofs.TestLaws.{by-test}
use Rattle.lists.proofs.EveryLaws.{every-head, every-tail}
use Rattle.ring.proofs.SlotLaws.{slots-more}
use Rattle.foldtest.specs.Clauses.Lowest.{lowest_of}

module _ (test : ℕ → Bool) where
  -- one list after the other
  pub lowest-append : (best : ℕ) (xs ys : List ℕ) → lowest_of test best (xs ++ ys) ≡ lowest_of test (lowest_of test best xs) ys
  unfolding lowest_of
  lowest-append best [] ys = refl
  lowest-append best (x ∷ xs) ys = lowest-append (cond (ltb x best && test x) x best) xs ys

  -- what one number makes of the bound
  step-le : (best k : ℕ) → cond (ltb k best && test k) k best ≤ best
  step-le best k =
      by-test (ltb k best)
      (λ l. by-test (test k) (λ t. rw (l, t) (omega (arith, ltb-true k best l))) (λ t. rw (l, t) (omega arith)))
      (λ l. rw l (omega arith))

  pub lowest-le : (best : ℕ) (ks : List ℕ) → lowest_of test best ks ≤ best
  unfolding lowest_of
  lowest-le best [] = omega arith
  lowest-le best (k ∷ ks) = omega (arith, step-le best k, lowest-le (cond (ltb k best && test k) k best) ks)

  -- a number that passes is not below what it made of the bound
  not-below : (best k low : ℕ) → low ≤ cond (ltb k best && test k) k best → ◌≡◌ {A = ℕ} (cond (ltb k low && test k) 1 0) 0
  not-below best k low most =
      by-test (test k)
      (λ t. by-test (ltb k best)
      (λ l. rw (le-ltb k low (rw (l, t) at most)))
      (λ l. let least : low ≤ best = rw l at most in rw (le-ltb k low (omega (arith, least, ltb-false k best l)))))
      (λ t. rw (t, and-false (ltb k low)))

  -- none of the list that passes is below it
  pub lowest-none : (best : ℕ) (ks : List ℕ) → count (λ k. ltb k (lowest_of test best ks) && test k) ks ≡ 0
  unfolding lowest_of sum
  lowest-none best [] = refl
  lowest-none best (k ∷ ks) =
      let best' = cond (ltb k best && test k) k best in
      omega (arith, not-below best k (lowest_of test best' ks) (lowest-le best' ks), lowest-none best' ks)

  -- where every one of the list passes another test, it is the bound, or passes both
  pub lowest-found : (ok : ℕ → Bool) (best : ℕ) (ks : List ℕ) → every ok ks ≡ true →
      (lowest_of test best ks ≡ best) ⊎ ((ok (lowest_of test best ks) ≡ true) × (test (lowest_of test best ks) ≡ true))
  unfolding lowest_of
  lowest-found ok best [] all = inl refl
  lowest-found ok best (k ∷ ks) all =
      by-test (ltb k best && test k)
      (λ b. rw b
      (⊎_elim
      (λ e. inr (ap ok e ∙ every-head ok k ks all, ap test e ∙ and_elim_right (ltb k best) (test k) b))
      (λ found. inr found)
      (lowest-found ok k ks (every-tail ok k ks all))))
      (λ b. rw b (lowest-found ok best ks (every-tail ok k ks all)))

  -- the next slot of a stretch
  pub lowest-more : (best : ℕ) (w : List ℕ) (base n : ℕ) →
      lowest_of test best (stretch w base (n + 1))
      ≡ (let low = lowest_of test best (stretch w base n) in let k = get_or w (base + n) 0 in cond (ltb k low && test k) k low)
  unfolding lowest_of
  lowest-more best w base n = ap (lowest_of test best) (slots-more w base n) ∙ lowest-append best (stretch w base n) (get_or w (base + n) 0 ∷ [])

-- ---- the loop

-- what was found is the lowest of the first i slots
pub record Lowest (test : ℕ → Bool) (best : ℕ) (w : List ℕ) (base i low : ℕ) : Type 0 where
  pub so_far : low ≡ lowest_of test best (stretch w base i)

pub lowest_start : (test : ℕ → Bool) (best : ℕ) (w : List ℕ) (base : ℕ) → Lowest test best w base 0 best
unfolding lowest_of below
lowest_start test best w base = record { so_far = refl }

pub lowest-turn : {test : ℕ → Bool} {best : ℕ} {w : List ℕ} {base i low : ℕ} → Lowest test best w base i low → {k : ℕ} → k ≡ get_or w (base + i) 0 →
    {next : ℕ} → next ≡ cond (ltb k low && test k) k low → Lowest test best w base (i + 1) next
lowest-turn {test} {best} {w} {base} {i} h read found = record { so_far = rw (lowest-more test best w base i, ← h.so_far, ← read) found }
