-- Tests over any list: every one passes, some one does, those that do, and how many they are.
-- Assumes nothing.
use Prim.Native.Nat.{ℕ, zero, suc, ◌+◌, ◌≤◌, ◌<◌, suc-le-suc}
use native.Mathlib.Nat.{zero-add, le_of_suc-le-suc, not-suc-le-zero, zero-lt-suc}
use native.Mathlib.Omega.{arith}
use mathlib.Core.Path.{◌≡◌, refl, sym, ap, ap₂, ◌∙◌}
use mathlib.Core.List.{List, [], ◌∷◌, ◌++◌, map}
use mathlib.Core.Bool.{Bool, true, false, not, ◌&&◌, ◌||◌, cond, false≢true, and_assoc, or_assoc}
use mathlib.Mathlib.Data.Bool.Basic.{and_elim_left, and_elim_right, and_intro, or_inl, or_inr}
use lib.Dec.{ltb, eqb}
use lib.ListN.{length, get_or, set}
use borrow.Author.Tests.{lt-ltb, eq-eqb, ne_eqb}
use Rattle.lists.specs.Lists.{sum, count, those, every, some, without, beside}
use Rattle.lists.proofs.TestLaws.{by-test, false_of, flag-le, flag-mono, neither-of}
use Rattle.lists.proofs.SumLaws.{sum-those, sum_same, sum_mono, sum-zero, sum-length, sum-times, sum-without}

-- one more element, as a test and as a count
or_count : (b c : Bool) (n : ℕ) → c ≡ ltb 0 n → (b || c) ≡ ltb 0 (cond b 1 0 + n)
or_count true c n e = sym (lt-ltb 0 (1 + n) (omega arith))
or_count false c n e = rw zero-add e

and-count : (b c : Bool) (n : ℕ) → c ≡ eqb n 0 → (b && c) ≡ eqb (cond (not b) 1 0 + n) 0
and-count true c n e = rw zero-add e
and-count false c n e = sym (ne_eqb (1 + n) 0 (omega arith))

module _ {A : Type 0} where
  -- ---- `every`, taken apart and put together

  pub every-head : (test : A → Bool) (x : A) (xs : List A) → every test (x ∷ xs) ≡ true → test x ≡ true
  unfolding every
  every-head test x xs all = and_elim_left (test x) (every test xs) all

  pub every-tail : (test : A → Bool) (x : A) (xs : List A) → every test (x ∷ xs) ≡ true → every test xs ≡ true
  unfolding every
  every-tail test x xs all = and_elim_right (test x) (every test xs) all

  pub every-cons : (test : A → Bool) (x : A) (xs : List A) → test x ≡ true → every test xs ≡ true → every test (x ∷ xs) ≡ true
  unfolding every
  every-cons test x xs first rest = rw (first, rest)

  -- ---- tests as counts

  pub some-count : (test : A → Bool) (xs : List A) → some test xs ≡ ltb 0 (count test xs)
  unfolding sum some
  some-count test [] = refl
  some-count test (x ∷ xs) = or_count (test x) (some test xs) (count test xs) (some-count test xs)

  pub every-count : (test : A → Bool) (xs : List A) → every test xs ≡ eqb (count (λ x. not (test x)) xs) 0
  unfolding sum every
  every-count test [] = refl
  every-count test (x ∷ xs) = and-count (test x) (every test xs) (count (λ x. not (test x)) xs) (every-count test xs)

  -- where every one passes, as many pass as there are
  pub count-every : (test : A → Bool) (xs : List A) → every test xs ≡ true → count test xs ≡ length xs
  unfolding sum every
  count-every test [] all = refl
  count-every test (x ∷ xs) all =
      rw (and_elim_left (test x) (every test xs) all) (omega (arith, count-every test xs (and_elim_right (test x) (every test xs) all)))

  -- where none fails, each passes
  pub every-counted : (test : A → Bool) (xs : List A) → sum (λ x. cond (test x) 0 1) xs ≡ 0 → every test xs ≡ true
  unfolding sum every
  every-counted test [] none = refl
  every-counted test (x ∷ xs) none =
      by-test (test x)
      (λ e. rw e (every-counted test xs (rw (e, zero-add) at none)))
      (λ e. absurd (omega (arith, rw e at none)))

  -- no more pass than there are
  pub count_most : (test : A → Bool) (xs : List A) → count test xs ≤ length xs
  count_most test xs = omega (arith, sum_mono (λ x. cond (test x) 1 0) (λ x. 1) (λ x. flag-le (test x)) xs, sum-length xs)

  -- ---- tests over two lists

  pub every_append : (test : A → Bool) (xs ys : List A) → every test (xs ++ ys) ≡ (every test xs && every test ys)
  unfolding every
  every_append test [] ys = refl
  every_append test (x ∷ xs) ys = rw (every_append test xs ys) (sym (and_assoc (test x) (every test xs) (every test ys)))

  pub some-append : (test : A → Bool) (xs ys : List A) → some test (xs ++ ys) ≡ (some test xs || some test ys)
  unfolding some
  some-append test [] ys = refl
  some-append test (x ∷ xs) ys = rw (some-append test xs ys) (sym (or_assoc (test x) (some test xs) (some test ys)))

  -- what holds of two lists holds of both in a row
  pub every-both : (test : A → Bool) (xs ys : List A) → every test xs ≡ true → every test ys ≡ true → every test (xs ++ ys) ≡ true
  every-both test xs ys first rest = rw (every_append test xs ys, first, rest)

  -- ---- tests at a place

  pub every-at : (test : A → Bool) (d : A) (xs : List A) → every test xs ≡ true → (i : ℕ) → i < length xs → test (get_or xs i d) ≡ true
  unfolding every
  every-at test d [] all i h = absurd (not-suc-le-zero h)
  every-at test d (x ∷ xs) all zero h = and_elim_left (test x) (every test xs) all
  every-at test d (x ∷ xs) all (suc i) h =
      every-at test d xs (and_elim_right (test x) (every test xs) all) i (le_of_suc-le-suc h)

  pub every-from : (test : A → Bool) (d : A) (xs : List A) → ((i : ℕ) → i < length xs → test (get_or xs i d) ≡ true) → every test xs ≡ true
  unfolding every
  every-from test d [] at = refl
  every-from test d (x ∷ xs) at = and_intro (at 0 (zero-lt-suc (length xs))) (every-from test d xs (λ i h. at (suc i) (suc-le-suc h)))

  pub some-from : (test : A → Bool) (d : A) (xs : List A) (i : ℕ) → i < length xs → test (get_or xs i d) ≡ true → some test xs ≡ true
  unfolding some
  some-from test d [] i h at = absurd (not-suc-le-zero h)
  some-from test d (x ∷ xs) zero h at = or_inl (test x) (some test xs) at
  some-from test d (x ∷ xs) (suc i) h at = or_inr (test x) (some test xs) (some-from test d xs i (le_of_suc-le-suc h) at)

  -- ---- one test and another

  -- a test that implies another
  pub every-implies : (test other : A → Bool) → ((x : A) → test x ≡ true → other x ≡ true) →
      (xs : List A) → every test xs ≡ true → every other xs ≡ true
  unfolding every
  every-implies test other implies [] all = refl
  every-implies test other implies (x ∷ xs) all =
      and_intro
      (implies x (and_elim_left (test x) (every test xs) all))
      (every-implies test other implies xs (and_elim_right (test x) (every test xs) all))

  -- the one that passes a test passes another, where the first implies the other
  pub some-implies : (test other : A → Bool) → ((x : A) → test x ≡ true → other x ≡ true) →
      (xs : List A) → some test xs ≡ true → some other xs ≡ true
  unfolding some
  some-implies test other implies [] one = one
  some-implies test other implies (x ∷ xs) one =
      by-test (test x)
      (λ e. or_inl (other x) (some other xs) (implies x e))
      (λ e. or_inr (other x) (some other xs) (some-implies test other implies xs (rw e at one)))

  -- the one that passes a test passes what every one passes
  pub every_some : (all one : A → Bool) (xs : List A) → every all xs ≡ true → some one xs ≡ true → (x : A) × (all x ≡ true) × (one x ≡ true)
  unfolding every some
  every_some all one [] a o = absurd (false≢true o)
  every_some all one (x ∷ xs) a o =
      by-test (one x)
      (λ e. (x, and_elim_left (all x) (every all xs) a, e))
      (λ e. every_some all one xs (and_elim_right (all x) (every all xs) a) (rw e at o))

  -- what all pass, every one of a list passes
  pub every-all : (test : A → Bool) → ((x : A) → test x ≡ true) → (xs : List A) → every test xs ≡ true
  unfolding every
  every-all test passes [] = refl
  every-all test passes (x ∷ xs) = every-cons test x xs (passes x) (every-all test passes xs)

  -- where none passes a test, every one fails it
  pub none-every : (test : A → Bool) (xs : List A) → some test xs ≡ false → every (λ x. not (test x)) xs ≡ true
  unfolding some every
  none-every test [] h = refl
  none-every test (x ∷ xs) h = let n = neither-of (test x) (some test xs) h in rw (n.0, none-every test xs n.1)

  -- what every one passes, the default too, is passed at any number
  pub every-default : (test : A → Bool) (d : A) (xs : List A) → every test xs ≡ true → test d ≡ true → (i : ℕ) → test (get_or xs i d) ≡ true
  every-default test d [] all other i = other
  every-default test d (x ∷ xs) all other zero = every-head test x xs all
  every-default test d (x ∷ xs) all other (suc i) = every-default test d xs (every-tail test x xs all) other i

  -- one that passes, put in the place of another
  pub every_set : (test : A → Bool) (xs : List A) (k : ℕ) (a : A) → every test xs ≡ true → test a ≡ true → every test (set xs k a) ≡ true
  every_set test [] k a all one = all
  every_set test (x ∷ xs) zero a all one = every-cons test a xs one (every-tail test x xs all)
  every_set test (x ∷ xs) (suc k) a all one = every-cons test x (set xs k a) (every-head test x xs all) (every_set test xs k a (every-tail test x xs all) one)

  -- where every one passes a test, those that pass a second one pass what follows from both
  pub every-those :
      (test passed : A → Bool) {wider : A → Bool} → ((x : A) → test x ≡ true → passed x ≡ true → wider x ≡ true)
      → (xs : List A) → every test xs ≡ true → every wider (those passed xs) ≡ true
  unfolding every those
  every-those test passed step [] all = refl
  every-those test passed {wider} step (x ∷ xs) all =
      let rest = every-those test passed step xs (every-tail test x xs all) in
      by-test (passed x)
      (λ t. rw t (every-cons wider x (those passed xs) (step x (every-head test x xs all) t) rest))
      (λ t. rw t rest)

  -- those that pass pass
  pub every-passed :
      (passed : A → Bool) {wider : A → Bool} → ((x : A) → passed x ≡ true → wider x ≡ true)
      → (xs : List A) → every wider (those passed xs) ≡ true
  every-passed passed step xs =
      every-those (λ x. true) passed (λ x t h. step x h) xs (every-all (λ x. true) (λ x. refl) xs)

  -- taking one out leaves the rest
  pub every-without : (test gone : A → Bool) (xs : List A) → every test xs ≡ true → every test (without gone xs) ≡ true
  unfolding every without
  every-without test gone [] all = refl
  every-without test gone (x ∷ xs) all =
      let rest = every-tail test x xs all in
      by-test (gone x)
      (λ t. rw t rest)
      (λ t. rw t (every-cons test x (without gone xs) (every-head test x xs all) (every-without test gone xs rest)))

  -- ---- those that pass

  -- where all pass, those that pass are all
  pub those-all : (xs : List A) → those (λ x. true) xs ≡ xs
  unfolding those
  those-all [] = refl
  those-all (x ∷ xs) = ap (λ (zs : List A). x ∷ zs) (those-all xs)

  -- of two lists, and of one that is longer by one
  pub those-append : (test : A → Bool) (xs ys : List A) → those test (xs ++ ys) ≡ those test xs ++ those test ys
  unfolding those
  those-append test [] ys = refl
  those-append test (x ∷ xs) ys =
      let rest = those-append test xs ys in
      by-test (test x) (λ e. rw (e, rest)) (λ e. rw (e, rest))

  -- those that pass a second test of those that pass a first, by one test where the first passes
  pub those-both : (test one both good : A → Bool) → ((x : A) → good x ≡ true → both x ≡ (one x && test x)) →
      (xs : List A) → every good xs ≡ true → those both xs ≡ those test (those one xs)
  unfolding those
  those-both test one both good tests [] all = refl
  those-both test one both good tests (x ∷ xs) all =
      let here = tests x (every-head good x xs all) in
      let rest = those-both test one both good tests xs (every-tail good x xs all) in
      by-test (one x)
      (λ o. by-test (test x) (λ t. rw (here, o, t, rest)) (λ t. rw (here, o, t, rest)))
      (λ o. rw (here, o, rest))

  pub those-next : (test : A → Bool) (xs : List A) {x y : A} {b : Bool} → x ≡ y → test y ≡ b →
      those test (xs ++ (x ∷ [])) ≡ those test xs ++ cond b (y ∷ []) []
  unfolding those
  those-next test xs same e = rw (those-append, same, e)

  -- ---- lengths and counts

  -- those that pass are as many as are counted, and one taken out is one fewer
  pub length-those : (test : A → Bool) (xs : List A) → length (those test xs) ≡ count test xs
  length-those test xs = omega (arith, sum-times 1 (those test xs), sum-those (λ x. 1) test xs)

  pub length_without : (test : A → Bool) (xs : List A) → 0 < count test xs → 1 + length (without test xs) ≡ length xs
  length_without test xs h =
      let there : some test xs ≡ true = some-count test xs ∙ lt-ltb 0 (count test xs) h in
      omega (arith, sum-without (λ x. 1) test 1 (λ x t. refl) xs there, sum-length xs, sum-length (without test xs))

  -- those that fail and those that pass are all
  pub count-not : (test : A → Bool) (xs : List A) → count (λ x. not (test x)) xs + count test xs ≡ length xs
  unfolding sum
  count-not test [] = refl
  count-not test (x ∷ xs) =
      let rest = count-not test xs in
      by-test (test x) (λ t. rw t (omega arith)) (λ t. rw t (omega arith))

  -- to count among those that pass is to count by both tests
  pub count-those : (test passed : A → Bool) (xs : List A) → count test (those passed xs) ≡ count (λ x. passed x && test x) xs
  count-those test passed xs =
      sum-those (λ x. cond (test x) 1 0) passed xs
      ∙ sum_same _ _ (λ x. by-test (passed x) (λ t. rw t) (λ t. rw t)) xs

  -- a wider test counts more, fewer are counted among those that pass, and none where none can pass
  pub count-mono : (test wider : A → Bool) → ((x : A) → test x ≡ true → wider x ≡ true) → (xs : List A) → count test xs ≤ count wider xs
  count-mono test wider step xs = sum_mono _ _ (λ x. flag-mono (test x) (wider x) (step x)) xs

  pub count-those-le : (test passed : A → Bool) (xs : List A) → count test (those passed xs) ≤ count test xs
  count-those-le test passed xs =
      rw (count-those test passed xs) (count-mono (λ x. passed x && test x) test (λ x h. and_elim_right (passed x) (test x) h) xs)

  pub count_none : (test : A → Bool) → ((x : A) → test x ≡ true → ⊥) → (xs : List A) → count test xs ≡ 0
  count_none test none xs = sum_same (λ x. cond (test x) 1 0) (λ x. 0) (λ x. rw (false_of (test x) (none x))) xs ∙ sum-zero xs

-- ---- from one list to another

module _ {A B : Type 0} where
  -- every one made passes
  pub every_map : (test : B → Bool) (f : A → B) (xs : List A) → every test (map f xs) ≡ every (λ x. test (f x)) xs
  unfolding every
  every_map test f [] = refl
  every_map test f (x ∷ xs) = rw (every_map test f xs)

  -- two functions that agree where a test passes, over a list where every one passes it
  pub map_same : (f g : A → B) (test : A → Bool) → ((x : A) → test x ≡ true → f x ≡ g x) →
      (xs : List A) → every test xs ≡ true → map f xs ≡ map g xs
  unfolding every
  map_same f g test same [] all = refl
  map_same f g test same (x ∷ xs) all =
      ap₂ ◌∷◌ (same x (and_elim_left (test x) (every test xs) all)) (map_same f g test same xs (and_elim_right (test x) (every test xs) all))

  -- those that pass, of a list that another keeps
  pub map-those-same : (f g : A → B) (s t all : A → Bool) →
      ((x : A) → all x ≡ true → f x ≡ g x) → ((x : A) → all x ≡ true → s x ≡ t x) →
      (xs : List A) → every all xs ≡ true → map f (those s xs) ≡ map g (those t xs)
  unfolding those every
  map-those-same f g s t all same-f same_s [] e = refl
  map-those-same f g s t all same-f same_s (x ∷ xs) e =
      let here : all x ≡ true = and_elim_left (all x) (every all xs) e in
      let rest : map f (those s xs) ≡ map g (those t xs) =
      map-those-same f g s t all same-f same_s xs (and_elim_right (all x) (every all xs) e) in
      rw (same_s x here)
      (by-test (t x) (λ p. rw (p, same-f x here) (ap (λ (ys : List B). g x ∷ ys) rest)) (λ p. rw p rest))

-- the same, for tests and rules that agree on every one
pub those-agree : {A B : Type 0} (g h : A → B) (test other wide : A → Bool) (xs : List A) → every wide xs ≡ true →
    ((x : A) → wide x ≡ true → test x ≡ other x) → ((x : A) → wide x ≡ true → g x ≡ h x) → map g (those test xs) ≡ map h (those other xs)
those-agree g h test other wide xs all tests rules = map-those-same g h test other wide rules tests xs all

module _ {A : Type 0} (g h : ℕ → A) (test other : ℕ → Bool) (keep : A → Bool) (good : ℕ → Bool)
    (same : (s : ℕ) → good s ≡ true → g s ≡ h s) (tests : (s : ℕ) → good s ≡ true → test s ≡ (other s && keep (h s))) where
  -- two rules that agree, and a test that is another and a third of what the rule gives
  pub kept-those : (xs : List ℕ) → every good xs ≡ true → map g (those test xs) ≡ those keep (map h (those other xs))
  unfolding those every
  kept-those [] all = refl
  kept-those (s ∷ xs) all =
      let here = and_elim_left (good s) (every good xs) all in
      let rest = kept-those xs (and_elim_right (good s) (every good xs) all) in
      by-test (other s)
      (λ o. by-test (keep (h s)) (λ k. rw (tests s here, o, k, rest, same s here)) (λ k. rw (tests s here, o, k, rest)))
      (λ o. rw (tests s here, o, rest))

-- every number of a list is in it
pub every_in : (xs : List ℕ) → every (λ s. some (eqb s) xs) xs ≡ true
every_in xs = every-from (λ s. some (eqb s) xs) 0 xs (λ i l. some-from (eqb (get_or xs i 0)) 0 xs i l (eq-eqb (get_or xs i 0) (get_or xs i 0) refl))

-- what each number of a list passes if a test passes, those that the test lets through pass
pub every-kept : {A : Type 0} (test : A → Bool) (h : ℕ → A) (passed good : ℕ → Bool) →
    ((s : ℕ) → good s ≡ true → passed s ≡ true → test (h s) ≡ true) →
    (xs : List ℕ) → every good xs ≡ true → every test (map h (those passed xs)) ≡ true
unfolding those every
every-kept test h passed good step [] all = refl
every-kept test h passed good step (s ∷ xs) all =
    let here = and_elim_left (good s) (every good xs) all in
    let rest = every-kept test h passed good step xs (and_elim_right (good s) (every good xs) all) in
    by-test (passed s) (λ e. rw e (and_intro (step s here e) rest)) (λ e. rw e rest)

-- those that stand beside what a rule gives of them, where that passes
pub beside-map : {A B : Type 0} (test : B → Bool) (rule : A → B) (xs : List A) → beside test (map rule xs) xs ≡ those (λ x. test (rule x)) xs
unfolding beside those
beside-map test rule [] = refl
beside-map test rule (x ∷ xs) = rw (beside-map test rule xs)
