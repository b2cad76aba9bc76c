-- Numbers that hang on tests.
-- Assumes nothing.
use Prim.Native.Nat.{ℕ, ◌+◌}
use native.Mathlib.Omega.{arith}
use native.Mathlib.Nat.{add-zero}
use mathlib.Core.Path.{◌≡◌, refl, sym, ap}
use mathlib.Core.Bool.{Bool, true, false, not, ◌&&◌, ◌||◌, cond, false≢true, true≢false}

-- a test and its opposite
pub never-self : (a b : Bool) (n : ℕ) → cond (a && not b && b) n 0 ≡ 0
never-self true true n = refl
never-self true false n = refl
never-self false b n = refl

-- none failed, so this one passed
pub passes : (b : Bool) (n : ℕ) → cond b 0 1 + n ≡ 0 → b ≡ true
passes true n none = refl
passes false n none = absurd (omega arith)

-- what passes does not fail
pub cond-self : (b : Bool) → ◌≡◌ {A = ℕ} (cond b (cond b 0 1) 0) 0
cond-self true = refl
cond-self false = refl

-- two tests, one after the other, and in either order
pub cond-and : (a b : Bool) (n : ℕ) → cond (a && b) n 0 ≡ cond a (cond b n 0) 0
cond-and true b n = refl
cond-and false b n = refl

pub cond-swap : (a b : Bool) (n : ℕ) → cond a (cond b n 0) 0 ≡ cond b (cond a n 0) 0
cond-swap true b n = refl
cond-swap false true n = refl
cond-swap false false n = refl

-- where the first test passes the second does too
pub cond-implied : (a b : Bool) (n : ℕ) → (a ≡ true → b ≡ true) → cond a n 0 ≡ cond b (cond a n 0) 0
cond-implied true true n k = refl
cond-implied true false n k = absurd (false≢true (k refl))
cond-implied false true n k = refl
cond-implied false false n k = refl

-- where the second test passes the first does too
pub cond-within : (a b e : Bool) (n : ℕ) → (b ≡ true → a ≡ true) → cond (a && e) (cond b n 0) 0 ≡ cond (b && e) n 0
cond-within true true e n k = refl
cond-within true false true n k = refl
cond-within true false false n k = refl
cond-within false true e n k = absurd (false≢true (k refl))
cond-within false false e n k = refl

-- where the second test passes the first does not
pub cond-apart : (a b e : Bool) (n : ℕ) → (b ≡ true → a ≡ false) → cond ((a || b) && e) n 0 ≡ cond b (cond e n 0) 0 + cond (a && e) n 0
cond-apart true true e n k = absurd (false≢true (sym (k refl)))
cond-apart true false e n k = omega arith
cond-apart false true e n k = omega arith
cond-apart false false e n k = refl

-- what the first test counts does not fail the opposite of the second
pub cond-none : (a b e : Bool) → (b ≡ true → a ≡ false) → ◌≡◌ {A = ℕ} (cond (a && e) (cond (not b) 0 1) 0) 0
cond-none true true e k = absurd (false≢true (sym (k refl)))
cond-none true false true k = refl
cond-none true false false k = refl
cond-none false b e k = refl

-- three tests of which at most one passes
pub cond-three : (a b c : Bool) (n : ℕ) → (a && b) ≡ false → (b && c) ≡ false → (c && a) ≡ false →
    cond a n 0 + cond b n 0 + cond c n 0 ≡ cond (a || b || c) n 0
cond-three true true c n p q r = absurd (false≢true (sym p))
cond-three true false true n p q r = absurd (false≢true (sym r))
cond-three true false false n p q r = omega arith
cond-three false true true n p q r = absurd (false≢true (sym q))
cond-three false true false n p q r = omega arith
cond-three false false true n p q r = omega arith
cond-three false false false n p q r = refl

-- one value at either of two tests
pub cond_either : (a b : Bool) (n m : ℕ) → cond b n (cond a n m) ≡ cond (a || b) n m
cond_either true true n m = refl
cond_either true false n m = refl
cond_either false b n m = refl

-- one of two things
pub one_of_two : (a : ℕ) (t u : Bool) → (t && u) ≡ false → a + cond t 1 0 + cond u 1 0 ≡ a + cond (t || u) 1 0
one_of_two a true true e = absurd (true≢false e)
one_of_two a true false e = omega arith
one_of_two a false u e = ap (λ (k : ℕ). k + cond u 1 0) (add-zero a)

-- one thing either way
pub cond_same : {A : Type 0} (b : Bool) (x : A) → cond b x x ≡ x
cond_same true x = refl
cond_same false x = refl
