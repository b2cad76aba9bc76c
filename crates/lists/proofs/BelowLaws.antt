-- The numbers below n: sums over them, and lists of what a function gives at each.
-- Assumes nothing.
use Prim.Native.Nat.{ℕ, zero, suc, ◌+◌, ◌*◌, ◌≤◌, ◌<◌, zero-le}
use native.Mathlib.Nat.{not-suc-le-zero, le_of_suc-le-suc, eq-or-lt_of_le}
use native.Mathlib.Omega.{arith}
use mathlib.Core.Path.{◌≡◌, refl, sym, ap, ◌∙◌}
use mathlib.Core.Logic.{◌≢◌, ⊎_elim}
use mathlib.Core.List.{List, [], ◌∷◌, map}
use mathlib.Core.Bool.{Bool, true, false, ◌&&◌, cond, and-true}
use mathlib.Mathlib.Data.Bool.Basic.{and_elim_left, and_elim_right, and_intro}
use lib.Dec.{ltb, eqb}
use lib.Arith.{lt_of_le-ne}
use lib.ListN.{length, get_or, set, length-set, length-append, length-map, get_or-map, get_or-append}
use lib.Seq.{get_or_at, get_or-set_same, get_or-set_other, ext_get_or}
use borrow.Author.Tests.{lt-ltb, le-ltb, ne_eqb, ltb-true, ltb-false, eqb-true, eqb-false}
use Rattle.lists.specs.Lists.{sum, count, those, every, below}
use Rattle.lists.proofs.TestLaws.{by-test, flag-le}
use Rattle.lists.proofs.SumLaws.{sum-append, sum-zero, sum-length}
use Rattle.lists.proofs.EveryLaws.{every-at, every-from, every-implies, count_most, those-all, those-both, map-those-same}

pub length-below : (n : ℕ) → length (below n) ≡ n
unfolding below
length-below zero = refl
length-below (suc n) = rw (length-append, length-below n) (omega arith)

pub get_d-below : (n i : ℕ) → i < n → get_or (below n) i 0 ≡ i
unfolding below
get_d-below zero i h = absurd (not-suc-le-zero h)
get_d-below (suc n) i h =
    ⊎_elim
    (λ e. rw e (get_or_at (below n) n [] 0 n (length-below n)))
    (λ l. get_or-append (below n) (n ∷ []) 0 i (rw length-below l) ∙ get_d-below n i l)
    (eq-or-lt_of_le (le_of_suc-le-suc h))

-- each is below n
pub all-below : (n : ℕ) → every (λ k. ltb k n) (below n) ≡ true
all-below n =
    every-from (λ k. ltb k n) 0 (below n)
    (λ i l. let small : i < n = omega (arith, length-below n) in rw (get_d-below n i small) (lt-ltb i n small))

-- of numbers below n, a test that implies another
pub every-implies-below : (n : ℕ) (test other : ℕ → Bool) → ((k : ℕ) → k < n → test k ≡ true → other k ≡ true) →
    (xs : List ℕ) → every (λ k. ltb k n && test k) xs ≡ true → every (λ k. ltb k n && other k) xs ≡ true
every-implies-below n test other implies xs =
    every-implies (λ k. ltb k n && test k) (λ k. ltb k n && other k)
    (λ k e.
    let small : ltb k n ≡ true = and_elim_left (ltb k n) (test k) e in
    and_intro {a = ltb k n} {b = other k} small (implies k (ltb-true k n small) (and_elim_right (ltb k n) (test k) e)))
    xs

-- ---- sums

-- one number more
flag-most : (b : Bool) (n : ℕ) → cond b n 0 ≤ n
flag-most true n = omega arith
flag-most false n = omega arith

pub sum_below : (g : ℕ → ℕ) (n : ℕ) → sum g (below (suc n)) ≡ sum g (below n) + g n
unfolding sum below
sum_below g n = rw (sum-append g (below n) (n ∷ [])) (omega arith)

-- two weights that agree, and one that is no more than the other
pub sum-same-below : (g h : ℕ → ℕ) (n : ℕ) → ((k : ℕ) → k < n → g k ≡ h k) → sum g (below n) ≡ sum h (below n)
unfolding sum below
sum-same-below g h zero same = refl
sum-same-below g h (suc n) same =
    omega (arith, sum_below g n, sum_below h n, same n (omega arith), sum-same-below g h n (λ k l. same k (omega arith)))

pub sum-most : (g h : ℕ → ℕ) (n : ℕ) → ((k : ℕ) → k < n → g k ≤ h k) → sum g (below n) ≤ sum h (below n)
unfolding sum below
sum-most g h zero most = omega arith
sum-most g h (suc n) most =
    omega (arith, sum_below g n, sum_below h n, most n (omega arith), sum-most g h n (λ k l. most k (omega arith)))

-- a weight that is nothing
pub sum-none : (g : ℕ → ℕ) (n : ℕ) → ((k : ℕ) → k < n → g k ≡ 0) → sum g (below n) ≡ 0
sum-none g n none = sum-same-below g (λ k. 0) n none ∙ sum-zero (below n)

-- ones
pub sum_ones : (n : ℕ) → sum (λ k. 1) (below n) ≡ n
sum_ones n = sum-length (below n) ∙ length-below n

-- no more pass than there are
pub count-below-most : (test : ℕ → Bool) (n : ℕ) → count test (below n) ≤ n
count-below-most test n = omega (arith, count_most test (below n), length-below n)

-- of the numbers below n the one that is x, where x is below n
pick-step : (g : ℕ → ℕ) (x n : ℕ) → cond (ltb x n) (g x) 0 + cond (eqb n x) (g n) 0 ≡ cond (ltb x (suc n)) (g x) 0
pick-step g x n =
    by-test (ltb x n)
    (λ l. rw (l, ne_eqb n x (omega (arith, ltb-true x n l)), lt-ltb x (suc n) (omega (arith, ltb-true x n l))) (omega arith))
    (λ l. by-test (eqb n x)
    (λ e. rw (l, e, lt-ltb x (suc n) (omega (arith, eqb-true n x e)), eqb-true n x e) (omega arith))
    (λ e. rw (l, e, le-ltb x (suc n) (lt_of_le-ne (ltb-false x n l) (eqb-false n x e)))))

pub sum-pick : (g : ℕ → ℕ) (x n : ℕ) → sum (λ y. cond (eqb y x) (g y) 0) (below n) ≡ cond (ltb x n) (g x) 0
unfolding sum below
sum-pick g x zero = rw (le-ltb x 0 zero-le)
sum-pick g x (suc n) = sum_below (λ y. cond (eqb y x) (g y) 0) n ∙ rw (sum-pick g x n) (pick-step g x n)

-- a sum in which one number alone counts
pub sum-single : (g : ℕ → ℕ) (c n : ℕ) → c < n → sum (λ k. cond (eqb k c) (g k) 0) (below n) ≡ g c
sum-single g c n l = sum-pick g c n ∙ rw (lt-ltb c n l)

-- each number below n is there once
-- no number gives more than all together
pub term-le : (g : ℕ → ℕ) (c n : ℕ) → c < n → g c ≤ sum g (below n)
term-le g c n l =
    omega (arith, sum-single g c n l, sum-most (λ k. cond (eqb k c) (g k) 0) g n (λ k m. flag-most (eqb k c) (g k)))

pub count-below : (x n : ℕ) → count (eqb x) (below n) ≡ cond (ltb x n) 1 0
unfolding sum below
count-below x zero = rw (le-ltb x 0 zero-le)
count-below x (suc n) =
    let before = count-below x n in
    let whole = sum-append (λ i. cond (eqb x i) 1 0) (below n) (n ∷ []) in
    by-test (ltb x n)
    (λ t. rw (whole, before, t, lt-ltb x (suc n) (omega (arith, ltb-true x n t)), ne_eqb x n (omega (arith, ltb-true x n t))))
    (λ f. by-test (eqb x n)
    (λ t. rw (whole, before, f, t, lt-ltb x (suc n) (omega (arith, eqb-true x n t))))
    (λ g. rw (whole, before, f, g, le-ltb x (suc n) (omega (arith, ltb-false x n f, eqb-false x n g)))))

pub count-below-le : (x n : ℕ) → count (eqb x) (below n) ≤ 1
count-below-le x n = rw (count-below x n) (flag-le (ltb x n))

-- a sum over fewer numbers is no more
pub sum-partial : (g : ℕ → ℕ) (a b : ℕ) → a ≤ b → sum g (below a) ≤ sum g (below b)
sum-partial g a zero l = let e : a ≡ 0 = omega arith in rw e (omega arith)
sum-partial g a (suc b) l =
    ⊎_elim (λ e. rw e (omega arith)) (λ m. omega (arith, sum-partial g a b (le_of_suc-le-suc m), sum_below g b)) (eq-or-lt_of_le l)

-- one term is another, and the sum is less by the one and more by the other
pub sum-changed : (g h : ℕ → ℕ) (n at : ℕ) → at < n → ((i : ℕ) → i < n → i ≢ at → h i ≡ g i) →
    sum h (below n) + g at ≡ sum g (below n) + h at
sum-changed g h zero at within same = absurd (not-suc-le-zero within)
sum-changed g h (suc n) at within same =
    ⊎_elim
    (λ e.
    let rest = sum-same-below h g n (λ i l. same i (omega arith) (omega arith)) in
    rw e (omega (arith, sum_below g n, sum_below h n)))
    (λ l.
    let rest = sum-changed g h n at l (λ i m. same i (omega arith)) in
    let last = same n (omega arith) (omega arith) in
    omega (arith, sum_below g n, sum_below h n))
    (eq-or-lt_of_le (le_of_suc-le-suc within))

-- threes in a row
pub sum-threes : (g : ℕ → ℕ) (n : ℕ) → sum g (below (3 * n)) ≡ sum (λ k. g (3 * k) + g (3 * k + 1) + g (3 * k + 2)) (below n)
unfolding sum below
sum-threes g zero = refl
sum-threes g (suc n) =
    let more : 3 * suc n ≡ suc (suc (suc (3 * n))) = omega arith in
    let one : 3 * n + 1 ≡ suc (3 * n) = omega arith in
    let two : 3 * n + 2 ≡ suc (suc (3 * n)) = omega arith in
    rw more
    (omega (
      arith,
      sum-threes g n,
      ap g one,
      ap g two,
      sum_below g (3 * n),
      sum_below g (suc (3 * n)),
      sum_below g (suc (suc (3 * n))),
      sum_below (λ k. g (3 * k) + g (3 * k + 1) + g (3 * k + 2)) n,
    ))

-- ---- what a function gives at each

module _ {A : Type 0} where
  -- at a place that there is, the default doesn't matter
  any-default : (l : List A) (i : ℕ) (d e : A) → i < length l → get_or l i d ≡ get_or l i e
  any-default [] i d e h = absurd (not-suc-le-zero h)
  any-default (x ∷ xs) zero d e h = refl
  any-default (x ∷ xs) (suc i) d e h = any-default xs i d e (le_of_suc-le-suc h)

  module _ (g : ℕ → A) (n : ℕ) where
    pub length-each : length (map g (below n)) ≡ n
    length-each = length-map (below n) g ∙ length-below n

    pub get_d-each : (x : ℕ) (d : A) → x < n → get_or (map g (below n)) x d ≡ g x
    get_d-each x d h =
        any-default (map g (below n)) x d (g 0) (rw length-each h) ∙ get_or-map g (below n) x 0 ∙ ap g (get_d-below n x h)

  module _ (g h : ℕ → A) (n : ℕ) where
    -- a list with what h gives at each place
    is-each : (xs : List A) → length xs ≡ n → ((x : ℕ) → x < n → get_or xs x (h 0) ≡ h x) → map h (below n) ≡ xs
    is-each xs long at =
        ext_get_or (h 0) (map h (below n)) xs (length-each h n ∙ sym long)
        (λ x l. let l' = rw length-each at l in get_d-each h n x (h 0) l' ∙ sym (at x l'))

    pub each_same : ((x : ℕ) → x < n → h x ≡ g x) → map h (below n) ≡ map g (below n)
    each_same same = is-each (map g (below n)) (length-each g n) (λ x l. get_d-each g n x (h 0) l ∙ sym (same x l))

    pub each-moved : (k : ℕ) → k < n → ((x : ℕ) → x ≢ k → h x ≡ g x) → map h (below n) ≡ set (map g (below n)) k (h k)
    each-moved k here same =
        is-each (set (map g (below n)) k (h k)) (length-set (map g (below n)) k (h k) ∙ length-each g n)
        (λ x l. by-test (eqb x k)
        (λ e. rw (eqb-true x k e) (get_or-set_same (map g (below n)) k (h k) (h 0) (rw length-each here)))
        (λ e. let other = eqb-false x k e in get_or-set_other (map g (below n)) k x (h k) (h 0) other ∙ get_d-each g n x (h 0) l ∙ sym (same x other)))

-- two rules that agree below n
pub map-same-below : {A : Type 0} (g h : ℕ → A) (n : ℕ) → ((k : ℕ) → k < n → g k ≡ h k) → map g (below n) ≡ map h (below n)
map-same-below g h n rules = each_same h g n rules

-- two tests and two rules that agree below n, of those that pass
pub kept_same : {A : Type 0} (g h : ℕ → A) (test other : ℕ → Bool) (n : ℕ) →
    ((k : ℕ) → k < n → test k ≡ other k) → ((k : ℕ) → k < n → g k ≡ h k) → map g (those test (below n)) ≡ map h (those other (below n))
kept_same g h test other n tests rules =
    map-those-same g h test other (λ k. ltb k n) (λ k l. rules k (ltb-true k n l)) (λ k l. tests k (ltb-true k n l)) (below n) (all-below n)

pub those-same-below : (test other : ℕ → Bool) (n : ℕ) → ((k : ℕ) → k < n → test k ≡ other k) → those test (below n) ≡ those other (below n)
those-same-below test other n tests =
    those-both (λ k. true) other test (λ k. ltb k n) (λ k l. tests k (ltb-true k n l) ∙ sym (and-true (other k))) (below n) (all-below n)
    ∙ those-all (those other (below n))

-- what each number below n gives passes, where every one does, and back
pub every-each : {A : Type 0} (test : A → Bool) (h : ℕ → A) (n : ℕ) → every test (map h (below n)) ≡ true → (k : ℕ) → k < n → test (h k) ≡ true
every-each test h n all k l =
    rw (get_d-each h n k (h 0) l) at (every-at test (h 0) (map h (below n)) all k (rw length-each l))

pub every-below : {A : Type 0} (test : A → Bool) (h : ℕ → A) (n : ℕ) →
    ((i : ℕ) → i < n → test (h i) ≡ true) → every test (map h (below n)) ≡ true
every-below test h n at =
    every-from test (h 0) (map h (below n)) (λ i l. let inside = rw length-each at l in rw (get_d-each h n i (h 0) inside) (at i inside))
