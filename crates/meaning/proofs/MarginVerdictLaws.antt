-- What the margin's verdict says of it: 12 with its first bad entry; or admitted, and then every entry names a point.
-- Assumes nothing.
use Prim.Native.Nat.{ℕ, zero, suc, ◌-◌, ◌≤◌, ◌<◌}
use native.Mathlib.Omega.{arith}
use mathlib.Core.Path.{◌≡◌, refl, sym, ap, ◌∙◌}
use mathlib.Core.List.{List}
use mathlib.Core.Bool.{Bool, true, false, not, ◌&&◌, false≢true}
use borrow.Author.Tests.{eqb-true, ltb-true, lt-ltb, leb-false, not-false}
use lib.Dec.{ltb, leb, eqb}
use lib.ListN.{length, get_or}
use Rattle.lists.specs.Lists.{every, some, below, first_of, FirstAt}
use Rattle.lists.proofs.TestLaws.{by-test, clash, false_of, neither-of}
use Rattle.lists.proofs.EveryLaws.{every-from, every_some, some-from}
use Rattle.lists.proofs.BelowLaws.{length-below, get_d-below}
use Rattle.lists.proofs.FirstLaws.{first-of, first-place, first_some}
use Rattle.std.specs.Prelude.{Ok, Err, is_ok}
use Rattle.meaning.specs.declared.Refusal.{Refusal}
use Rattle.meaning.specs.declared.Refusal.TheVariants.{BadMargin}
use Rattle.meaning.specs.Answers.{bad_entry, margin_verdict}
use Rattle.meaning.specs.Start.{in_margin}
use Rattle.meaning.proofs.VerdictOrder.{past}

module _ (v : ℕ) (margin : List ℕ) where
  -- some entry is bad, and p is the first one's number
  abbrev pub some_bad : Bool
  some_bad = some (bad_entry v margin) (below (length margin))

  abbrev pub FirstBad : ℕ → Type 0
  FirstBad p = FirstAt (bad_entry v margin) 0 (below (length margin)) p

  -- ---- the verdict

  -- the first bad entry decides
  pub entry-decides : {p : ℕ} → FirstBad p → margin_verdict v margin ≡ Err (BadMargin p)
  unfolding margin_verdict
  entry-decides {p} f = rw (first_some (bad_entry v margin) 0 (below (length margin)) f, first-place (bad_entry v margin) 0 (below (length margin)) p f)

  -- and where there is none, the margin is admitted
  pub margin-admitted : some_bad ≡ false → margin_verdict v margin ≡ Ok tt
  unfolding margin_verdict
  margin-admitted none = rw none

  -- an admitted margin has no bad entry
  pub margin_good : margin_verdict v margin ≡ Ok tt → some_bad ≡ false
  unfolding margin_verdict
  margin_good e = (past is_ok some_bad (Err (BadMargin (first_of (bad_entry v margin) (below (length margin))))) (Ok tt) refl refl e).0

  -- a refused one is refused by 12, with its first bad entry
  pub margin-refused : {r : Refusal} → margin_verdict v margin ≡ Err r → (p : ℕ) × (r ≡ BadMargin p) × FirstBad p
  unfolding margin_verdict
  margin-refused {r} e =
      by-test some_bad
      (λ t.
      let told : Err (BadMargin (first_of (bad_entry v margin) (below (length margin)))) ≡ Err r = rw t at e in
      (first_of (bad_entry v margin) (below (length margin)), cc, first-of (bad_entry v margin) 0 (below (length margin)) t))
      (λ none. absurd (false≢true (sym (ap is_ok (rw none at e)))))

  -- ---- the entries

  -- where none is bad, no entry is
  pub each-good : some_bad ≡ false → (k : ℕ) → k < length margin → bad_entry v margin k ≡ false
  each-good none k h =
      false_of (bad_entry v margin k)
      (λ bad. clash
      (some-from (bad_entry v margin) 0 (below (length margin)) k (rw length-below h) (ap (bad_entry v margin) (get_d-below (length margin) k h) ∙ bad))
      none)

  -- an entry that is not bad is below v
  pub good-below : (k : ℕ) → bad_entry v margin k ≡ false → get_or margin k 0 < v
  good-below k good = ltb-true (get_or margin k 0) v (not-false _ (neither-of (not (ltb (get_or margin k 0) v)) _ good).0)

  -- and above the one before it
  pub good-above : (k : ℕ) → bad_entry v margin (suc k) ≡ false → get_or margin k 0 < get_or margin (suc k) 0
  good-above k good =
      let second = (neither-of (not (ltb (get_or margin (suc k) 0) v)) (ltb 0 (suc k) && leb (get_or margin (suc k) 0) (get_or margin (suc k - 1) 0)) good).1 in
      let before : suc k - 1 ≡ k = omega arith in
      leb-false (get_or margin (suc k) 0) (get_or margin k 0) (rw (lt-ltb 0 (suc k) (omega arith), before) at second)

  -- so entry k is at least k
  pub good-least : (k : ℕ) → ((j : ℕ) → j ≤ k → bad_entry v margin j ≡ false) → k ≤ get_or margin k 0
  good-least zero good = omega arith
  good-least (suc k) good = omega (arith, good-least k (λ j h. good j (omega arith)), good-above k (good (suc k) (omega arith)))

  -- and where the first n entries are good there are at most v of them
  pub good-few : (n : ℕ) → ((j : ℕ) → j < n → bad_entry v margin j ≡ false) → n ≤ v
  good-few zero good = omega arith
  good-few (suc k) good = omega (arith, good-least k (λ j h. good j (omega arith)), good-below k (good k (omega arith)))

  -- every entry of a margin without a bad one is below v
  pub all_named : ((k : ℕ) → k < length margin → bad_entry v margin k ≡ false) → every (λ y. ltb y v) margin ≡ true
  all_named good = every-from (λ y. ltb y v) 0 margin (λ k h. lt-ltb (get_or margin k 0) v (good-below k (good k h)))

  -- and so is every point that it names
  pub named-below : some_bad ≡ false → (x : ℕ) → in_margin margin x ≡ true → x < v
  named-below none x named =
      let (y, small, same) = every_some (λ y. ltb y v) (eqb x) margin (all_named (each-good none)) named in
      omega (arith, ltb-true y v small, eqb-true x y same)
