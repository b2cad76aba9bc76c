-- Numbers in a list: their places, and a number noted at the end where it is new.
-- Assumes nothing.
use Prim.Native.Nat.{ℕ, zero, suc, ◌≤◌, ◌<◌, zero-le}
use native.Mathlib.Nat.{le_trans, le_of_suc-le-suc, not-suc-le-zero, le-add_left}
use native.Mathlib.Omega.{arith}
use mathlib.Core.Path.{◌≡◌, refl, sym, ◌∙◌}
use mathlib.Core.List.{List, [], ◌∷◌, ◌++◌}
use mathlib.Core.Bool.{Bool, true, false, ◌||◌, cond, or-false, true≢false, false≢true}
use mathlib.Mathlib.Data.Bool.Basic.{and_intro, or_inl, or_inr}
use lib.Dec.{ltb, eqb}
use lib.ListN.{length, get_or, length-append}
use borrow.Author.Tests.{ltb-true, ltb-false, eqb-true, eq-eqb}
use Rattle.lists.specs.Lists.{sum, count, every, some, below}
use Rattle.walk.specs.Output.{noted, place_in}
use Rattle.lists.proofs.TestLaws.{by-test}
use Rattle.lists.proofs.SumLaws.{sum-append, sum_same, sum_mono, sum-swap, sum-length}
use Rattle.lists.proofs.BelowLaws.{sum-pick, length-below}
use Rattle.lists.proofs.EveryLaws.{some-count, count-every, every_append, some-append, some-from}

-- a list has a number
abbrev pub has : List ℕ → ℕ → Bool
has xs x = some (eqb x) xs

-- no number is there twice
abbrev pub Once : List ℕ → Type 0
Once xs = (x : ℕ) → count (eqb x) xs ≤ 1

-- ---- places

pub place-append : (xs ys : List ℕ) (x : ℕ) → has xs x ≡ true → place_in (xs ++ ys) x ≡ place_in xs x
unfolding some place_in
place-append [] ys x h = absurd (false≢true h)
place-append (y ∷ xs) ys x h = by-test (eqb x y) (λ e. rw e) (λ e. rw (e, place-append xs ys x (rw e at h)))

-- a new number at the end has the old length for its place
pub place_end : (xs : List ℕ) (x : ℕ) → has xs x ≡ false → place_in (xs ++ (x ∷ [])) x ≡ length xs
unfolding some place_in
place_end [] x h = rw (eq-eqb x x refl)
place_end (y ∷ xs) x h = by-test (eqb x y) (λ e. absurd (true≢false (rw e at h))) (λ e. rw (e, place_end xs x (rw e at h)))

pub place-below : (xs : List ℕ) (x : ℕ) → has xs x ≡ true → place_in xs x < length xs
unfolding some place_in
place-below [] x h = absurd (false≢true h)
place-below (y ∷ xs) x h = by-test (eqb x y) (λ e. rw e (omega arith)) (λ e. rw e (omega (arith, place-below xs x (rw e at h))))

-- what stands at a number's place is the number
pub get_d-place : (d : ℕ) (xs : List ℕ) (x : ℕ) → has xs x ≡ true → get_or xs (place_in xs x) d ≡ x
unfolding some place_in
get_d-place d [] x h = absurd (false≢true h)
get_d-place d (y ∷ xs) x h = by-test (eqb x y) (λ e. rw e (sym (eqb-true x y e))) (λ e. rw e (get_d-place d xs x (rw e at h)))

-- a number that is there has a count
has-count : (xs : List ℕ) (x : ℕ) → has xs x ≡ true → 0 < count (eqb x) xs
has-count xs x h = ltb-true 0 _ (sym (some-count (eqb x) xs) ∙ h)

-- where no number is there twice, the place of what stands at i is i
pub place-get_d : (d : ℕ) (xs : List ℕ) → Once xs → (i : ℕ) → i < length xs → place_in xs (get_or xs i d) ≡ i
unfolding sum place_in
place-get_d d [] once i h = absurd (not-suc-le-zero h)
place-get_d d (y ∷ xs) once zero h = rw (eq-eqb y y refl)
place-get_d d (y ∷ xs) once (suc i) h =
    let x = get_or xs i d in
    let there : 0 < count (eqb x) xs = has-count xs x (some-from (eqb x) d xs i (le_of_suc-le-suc h) (eq-eqb x x refl)) in
    by-test (eqb x y)
    (λ e. absurd (omega (arith, rw e at (once x))))
    (λ e. rw (e, place-get_d d xs (λ z. le_trans (le-add_left _ _) (once z)) i (le_of_suc-le-suc h)))

pub once-none : Once []
unfolding sum
once-none x = zero-le

-- numbers below v of which none is there twice are at most v
pub once-length : (v : ℕ) (xs : List ℕ) → Once xs → every (λ x. ltb x v) xs ≡ true → length xs ≤ v
once-length v xs once all =
    let each : length xs ≡ sum (λ y. count (eqb y) xs) (below v) =
    sym (count-every (λ x. ltb x v) xs all)
    ∙ sym (sum_same _ _ (λ x. sum-pick (λ y. 1) x v) xs)
    ∙ sum-swap (λ x y. cond (eqb y x) 1 0) xs (below v) in
    omega (arith, sum_mono (λ y. count (eqb y) xs) (λ y. 1) once (below v), sum-length (below v), length-below v)

-- ---- one number noted

-- by whether the number is there
pub noted-cases : (P : List ℕ → Type 0) (seen : List ℕ) (x : ℕ) →
    (has seen x ≡ true → P seen) → (has seen x ≡ false → P (seen ++ (x ∷ []))) → P (noted seen x)
noted-cases P seen x old new = by-test (has seen x) (λ e. rw e (old e)) (λ e. rw e (new e))

-- a number is there if it was there or is the one noted
pub has-noted : (seen : List ℕ) (y x : ℕ) → has (noted seen y) x ≡ (has seen x || eqb x y)
unfolding some
has-noted seen y x =
    noted-cases (λ ys. has ys x ≡ (has seen x || eqb x y)) seen y
    (λ h. by-test (eqb x y) (λ e. rw (eqb-true x y e, h)) (λ e. rw (e, or-false)))
    (λ _. some-append (eqb x) seen (y ∷ []) ∙ rw or-false)

pub noted-has : (seen : List ℕ) (x : ℕ) → has (noted seen x) x ≡ true
noted-has seen x = has-noted seen x x ∙ or_inr (has seen x) (eqb x x) (eq-eqb x x refl)

pub noted-keeps : (seen : List ℕ) (y x : ℕ) → has seen x ≡ true → has (noted seen y) x ≡ true
noted-keeps seen y x h = has-noted seen y x ∙ or_inl (has seen x) (eqb x y) h

pub place-noted : (seen : List ℕ) (y x : ℕ) → has seen x ≡ true → place_in (noted seen y) x ≡ place_in seen x
place-noted seen y x h = noted-cases (λ ys. place_in ys x ≡ place_in seen x) seen y (λ _. refl) (λ _. place-append seen (y ∷ []) x h)

pub place-new : (seen : List ℕ) (x : ℕ) → has seen x ≡ false → place_in (noted seen x) x ≡ length seen
place-new seen x h = rw h (place_end seen x h)

pub once-noted : (seen : List ℕ) (y : ℕ) → Once seen → Once (noted seen y)
unfolding sum
once-noted seen y once =
    noted-cases Once seen y (λ _. once)
    (λ fresh x. rw sum-append (by-test (eqb x y)
    (λ e. rw e (omega (arith, ltb-false 0 (count (eqb x) seen) (sym (some-count (eqb x) seen) ∙ rw (eqb-true x y e) fresh))))
    (λ e. rw e (omega (arith, once x)))))

pub noted-every : (test : ℕ → Bool) (seen : List ℕ) (x : ℕ) → every test seen ≡ true → test x ≡ true → every test (noted seen x) ≡ true
unfolding every
noted-every test seen x old new =
    noted-cases (λ ys. every test ys ≡ true) seen x (λ _. old)
    (λ _. every_append test seen (x ∷ []) ∙ and_intro old (and_intro new refl))

pub length-noted : (seen : List ℕ) (x : ℕ) → length (noted seen x) ≤ suc (length seen)
length-noted seen x =
    noted-cases (λ ys. length ys ≤ suc (length seen)) seen x (λ _. omega arith) (λ _. rw length-append (omega arith))
