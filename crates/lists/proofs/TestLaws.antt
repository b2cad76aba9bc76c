-- Tests and flags: a proof by cases on a test, and a test as the number 0 or 1.
-- Assumes nothing.
use Prim.Native.Nat.{ℕ, ◌+◌, ◌≤◌, ◌<◌}
use mathlib.Core.Path.{◌≡◌, refl, sym, ◌∙◌}
use mathlib.Core.Logic.{◌≢◌}
use mathlib.Core.Bool.{Bool, true, false, not, ◌&&◌, ◌||◌, cond, true≢false, false≢true, and-true, and-false}
use mathlib.Mathlib.Data.Bool.Basic.{and_elim_left, and_elim_right}
use native.Mathlib.Omega.{arith}
use lib.Dec.{eqb}
use borrow.Author.Tests.{eqb-true, eq-eqb, not-true, ne_eqb, eqb-false}
use native.Mathlib.Nat.{not-suc-le-zero, add-zero}

-- a test passes or fails
pub by-test : {P : Type 0} (b : Bool) → (b ≡ true → P) → (b ≡ false → P) → P
by-test true pass fail = pass refl
by-test false pass fail = fail refl

-- a test can't do both
pub clash : {P : Type 0} {b : Bool} → b ≡ true → b ≡ false → P
clash t f = absurd (true≢false (sym t ∙ f))

-- two tests joined, taken apart
pub both_true : (b c : Bool) → (b && c) ≡ true → (b ≡ true) × (c ≡ true)
both_true b c h = (and_elim_left b c h, and_elim_right b c h)

pub either-of : {P : Type 0} (b c : Bool) → (b || c) ≡ true → (b ≡ true → P) → (c ≡ true → P) → P
either-of true c h f g = f refl
either-of false c h f g = g h

pub neither-of : (b c : Bool) → (b || c) ≡ false → (b ≡ false) × (c ≡ false)
neither-of true c h = absurd (true≢false h)
neither-of false c h = (refl, h)

-- the same of three, four and six
pub one_of_three :
    {P : Type 0} (b c d : Bool) → (b || c || d) ≡ true → (b ≡ true → P) → (c ≡ true → P) → (d ≡ true → P) → P
one_of_three true c d h f g k = f refl
one_of_three false true d h f g k = g refl
one_of_three false false d h f g k = k h

pub none_of_four :
    (b c d e : Bool) → not (b || c || d || e) ≡ true → (b ≡ false) × (c ≡ false) × (d ≡ false) × (e ≡ false)
none_of_four false false false e h = (refl, refl, refl, not-true e h)
none_of_four false false true e h = absurd (false≢true h)
none_of_four false true d e h = absurd (false≢true h)
none_of_four true c d e h = absurd (false≢true h)

pub all-of-six :
    (p q r s t u : Bool) → (p && q && r && s && t && u) ≡ true
    → (p ≡ true) × (q ≡ true) × (r ≡ true) × (s ≡ true) × (t ≡ true) × (u ≡ true)
all-of-six true true true true true u h = (refl, refl, refl, refl, refl, h)
all-of-six true true true true false u h = absurd (false≢true h)
all-of-six true true true false t u h = absurd (false≢true h)
all-of-six true true false s t u h = absurd (false≢true h)
all-of-six true false r s t u h = absurd (false≢true h)
all-of-six false q r s t u h = absurd (false≢true h)

-- a test that can't pass fails
pub false_of : (b : Bool) → (b ≡ true → ⊥) → b ≡ false
false_of true h = absurd (h refl)
false_of false h = refl

-- a test as a number: at most 1, more where the wider test passes, above 0 only where it passes
pub flag-le : (b : Bool) → cond b 1 0 ≤ 1
flag-le true = omega arith
flag-le false = omega arith

pub flag-mono : (b c : Bool) → (b ≡ true → c ≡ true) → cond b 1 0 ≤ cond c 1 0
flag-mono true c f = rw (f refl) (omega arith)
flag-mono false c f = omega arith

pub flag_true : (b : Bool) → 0 < cond b 1 0 → b ≡ true
flag_true true h = refl
flag_true false h = absurd (not-suc-le-zero h)

-- what the tests of numbers say
pub differ : (x y : ℕ) → not (eqb x y) ≡ true → x ≡ y → ⊥
differ x y h e = clash (eq-eqb x y e) (not-true _ h)

pub ends : (x y m n : ℕ) → (eqb x m && eqb y n) ≡ true → (x ≡ m) × (y ≡ n)
ends x y m n h = (eqb-true x m (and_elim_left (eqb x m) (eqb y n) h), eqb-true y n (and_elim_right (eqb x m) (eqb y n) h))

-- ---- by cases

-- a case for each outcome
pub by-outcome : (P : Bool → Type 0) (b : Bool) → (b ≡ true → P true) → (b ≡ false → P false) → P b
by-outcome P true passed failed = passed refl
by-outcome P false passed failed = failed refl

-- two tests that imply each other
pub same_test : (a b : Bool) → (a ≡ true → b ≡ true) → (b ≡ true → a ≡ true) → a ≡ b
same_test true true there back = refl
same_test true false there back = absurd (false≢true (there refl))
same_test false true there back = absurd (false≢true (back refl))
same_test false false there back = refl

-- ---- equal numbers

-- either way round
pub eqb-sym : (x y : ℕ) → eqb x y ≡ eqb y x
eqb-sym x y =
    by-outcome (λ b. b ≡ eqb y x) (eqb x y)
    (λ e. sym (eq-eqb y x (sym (eqb-true x y e))))
    (λ e. sym (ne_eqb y x (λ q. eqb-false x y e (sym q))))

-- one number is not two others
pub not-two : (p x y : ℕ) → x ≢ y → (eqb p x && eqb p y) ≡ false
not-two p x y apart =
    by-outcome (λ b. (b && eqb p y) ≡ false) (eqb p x) (λ e. ne_eqb p y (λ q. apart (sym (eqb-true p x e) ∙ q))) (λ e. refl)

-- a number that is not above another is it with one added only where nothing is added
pub still-equal : (a b : ℕ) (grew : Bool) → a ≤ b → eqb a (b + cond grew 1 0) ≡ (eqb a b && not grew)
still-equal a b true h = ne_eqb a (b + 1) (λ e. omega arith) ∙ sym (and-false (eqb a b))
still-equal a b false h = rw add-zero (sym (and-true (eqb a b)))

-- ---- several tests

-- the first may be asked too
pub never_both : (a b c : Bool) → (b && c) ≡ false → (a && c) ≡ (a && not b && c)
never_both true true c e = e
never_both true false c e = refl
never_both false b c e = refl

-- two tests, each passed on where something did not happen
pub both-still : (a b t u : Bool) → ((a && not t) && (b && not u)) ≡ ((a && b) && not (t || u))
both-still true true true u = refl
both-still true true false u = refl
both-still true false true u = refl
both-still true false false true = refl
both-still true false false false = refl
both-still false b t u = refl

-- four tests in a row, by twos
pub by-twos : (a b c d : Bool) → not ((a || b) || (c || d)) ≡ not (a || b || c || d)
by-twos true b c d = refl
by-twos false true c d = refl
by-twos false false c d = refl
