-- Finite f32 at or above +0, by their patterns: their order is the patterns', a product is rounded once and so never passes a number that an f32 has,
-- and the root is the pattern's. Assumes nothing.
use Rattle.std.proofs.Common.{◌≡◌, ℕ, zero, suc, ◌+◌, ◌-◌, ◌*◌, ◌/◌, ◌%◌, ◌^◌, ◌<◌, ◌≤◌, Bool, true, false, not, ◌&&◌, T, eqb, ltb, leb, ℤ, sym, refl, ap, ◌∙◌, subst, ⊎_elim, true≢false, le_trans, le_of_eq, lt_of_lt_of_le, lt_of_le_of_lt, mul-le-mul_right, mul_assoc, mul_comm, div-lt_iff_lt-mul, mul-lt-mul_of_pos_right, mul-pos, pow-suc, zero-mul, mul-one, mul_right_comm, mul_left_comm, arith, lit≤, ltb→lt, pow_pos, pow-add, ltb-false, ltb-true, le-ltb, lt-ltb}
use native.Mathlib.Nat.{mul-mul-mul_comm}
use mathlib.Core.Bool.{false≢true}
use lib.Ieee.{Float, nan, inf, fin, Format, binary32, up, down, size, round, mul, lt, le, fits, is_nan, of_bits, to_bits, nan_bits, ones, hid, top}
use lib.Ieee.Digits.{size-le}
use lib.Ieee.Fits.{down_pos, kept-lt, and_r, round-fits, mul-fits}
use lib.Ieee.Exact.{HasValue, round_exact}
use lib.Ieee.Order.{round_mono}
use lib.Ieee.Scale.{finite, round_same}
use lib.Ieee.Positive.{positive, positive_of_value, above, above_of_le}
use lib.Ieee.Bits.{is_true, of_bits-to_bits, of_bits-fits, to_bits-of_bits, nan_bits_is, nan_bits_above}
use borrow.Author.Tests.{lt-leb, not-true}
use Rattle.bits.specs.Root.{steps, finite_root, root_bits, root}
use Rattle.bits.proofs.RootSteps.{lt-or-le, steps-rise, steps_low, steps-normal}
use Rattle.bits.proofs.RootTies.{steps-parts}
use Rattle.bits.proofs.RootLaws.{root_bits-finite, root-of-zero}
use Rattle.bits.proofs.RootValues.{steps-value}
use Rattle.bits.proofs.RootOrder.{steps-mono, steps-higher, root_below, root-high}
use Rattle.bits.proofs.PatternOrder.{lt-bits}
use Rattle.bits.proofs.FloatOrder.{le_total}
use Rattle.bits.proofs.Rounded.{bits_of_value}
use Rattle.bits.proofs.NotBelowZero.{NotBelow, number, infinite, NeverBelow, no_number, some_number, round-sign}

-- x is finite and at or above +0, and b is its pattern
pub record Pattern (x : Float) (b : ℕ) : Type 0 where
  pub below : b < 0x7f80_0000
  pub is : x ≡ of_bits binary32 b

-- ---- which floats have one

-- what f32 holds is below 2^128
under_top : (s : Bool) (m : ℕ) (e : ℤ) → T (fits binary32 (fin s m e)) → m * up e < 2 ^ 128 * down e
unfolding fits
under_top s zero e h = lt_of_le_of_lt (le_of_eq (zero-mul (up e))) (mul-pos (pow_pos 128) (down_pos e))
under_top s (suc m) e h = ltb→lt (suc m * up e) (2 ^ 128 * down e) (and_r (eqb (suc m % 2) 1 && ltb (suc m) (2 ^ 24) && leb (down e) (2 ^ 149)) (ltb (suc m * up e) (2 ^ 128 * down e)) h)

-- so it has at most so many digits in units of the smallest step
digits-few : (a d l t : ℕ) → 0 < d → a < 2 ^ t * d → size (a * 2 ^ l / d) ≤ t + l
digits-few a d l t D h =
    size-le (a * 2 ^ l / d) (t + l)
    ((div-lt_iff_lt-mul D).1
    (lt_of_lt_of_le (mul-lt-mul_of_pos_right h (pow_pos l))
    (le_of_eq (mul_right_comm (2 ^ t) d (2 ^ l) ∙ ap (λ (z : ℕ). z * d) (sym (pow-add 2 t l))))))

-- and that makes a pattern below the infinity's
pattern-few : (z q : ℕ) → z ≤ 277 → q < 2 ^ 24 → 0 + (z - 24) * 8388608 + q < 0x7f80_0000
pattern-few z q h k = omega arith

pub pattern-of : (x : Float) → T (fits binary32 x) → NotBelow x → finite x ≡ true → Pattern x (to_bits binary32 x)
unfolding to_bits
pattern-of nan held plus fine = elim plus [ ]
pattern-of (inf s) held plus fine = absurd (false≢true fine)
pattern-of (fin true m e) held plus fine = elim plus [ ]
pattern-of (fin false m e) held plus fine =
    let n = m * up e * 2 ^ 149 / down e in
    record {
      below = pattern-few (size n) (n / 2 ^ (size n - 24)) (digits-few (m * up e) (down e) 149 128 (down_pos e) (under_top false m e held)) (kept-lt 24 n);
      is = sym (of_bits-to_bits binary32 (fin false m e) held);
    }

-- a literal's
pub literal : (b : ℕ) → b < 0x7f80_0000 → Pattern (of_bits binary32 b) b
literal b h = record { below = h; is = refl }

-- ---- the order

no-nan-bits : (b : ℕ) → b < 0x7f80_0000 → nan_bits binary32 b ≡ false
no-nan-bits b h = nan_bits_above binary32 b ∙ le-ltb (ones binary32 * hid binary32) (b % top binary32) (omega arith)

no_nan : {x : Float} {b : ℕ} → Pattern x b → is_nan x ≡ false
no_nan {b = b} p = ap is_nan p.is ∙ sym (nan_bits_is binary32 b) ∙ no-nan-bits b p.below

lt-is : {x y : Float} {a b : ℕ} → Pattern x a → Pattern y b → lt x y ≡ ltb a b
lt-is {a = a} {b = b} p q =
    let P = p.below in
    let Q = q.below in
    let left : a % top binary32 ≡ a = omega arith in
    let right : b % top binary32 ≡ b = omega arith in
    rw (p.is, q.is, lt-bits binary32 a b (no-nan-bits a P) (no-nan-bits b Q), lt-leb (top binary32) a (omega arith), lt-leb (top binary32) b (omega arith), left, right)

module _ {x y : Float} {a b : ℕ} (p : Pattern x a) (q : Pattern y b) where
  pub below-lt : a < b → lt x y ≡ true
  below-lt h = lt-is p q ∙ lt-ltb a b h

  pub lt-below : lt x y ≡ true → a < b
  lt-below h = ltb-true a b (sym (lt-is p q) ∙ h)

  pub not-lt-most : lt x y ≡ false → b ≤ a
  not-lt-most h = ltb-false a b (sym (lt-is p q) ∙ h)

  -- of two floats that are no NaN
  le_is : le x y ≡ not (ltb b a)
  le_is = le_total x y (no_nan p) (no_nan q) ∙ ap not (lt-is q p)

  pub most-le : a ≤ b → le x y ≡ true
  most-le h = le_is ∙ ap not (le-ltb b a h)

  pub le-most : le x y ≡ true → a ≤ b
  le-most h = ltb-false b a (not-true (ltb b a) (sym le_is ∙ h))

-- what is at most a finite float is finite
le-finite : {x : Float} (y : Float) → NeverBelow x → finite y ≡ true → le x y ≡ true → NotBelow x × (finite x ≡ true)
unfolding le
le-finite nan n f h = absurd (false≢true f)
le-finite (inf s) n f h = absurd (false≢true f)
le-finite (fin s m e) no_number f h = absurd (false≢true h)
le-finite (fin s m e) (some_number number) f h = (number, refl)
le-finite (fin s m e) (some_number infinite) f h = absurd (false≢true h)

-- a float with a value is finite
value-finite : (x : Float) (s : Bool) (a c : ℕ) → HasValue x s a c → finite x ≡ true
value-finite nan s a c v = absurd v
value-finite (inf t) s a c v = absurd v
value-finite (fin t m e) s a c v = refl

value_of : {x : Float} {b : ℕ} → Pattern x b → HasValue x false (steps b) (2 ^ 149)
value_of {b = b} p = rw p.is (steps-value b p.below)

pub pattern-finite : {x : Float} {b : ℕ} → Pattern x b → finite x ≡ true
pattern-finite {x} {b} p = value-finite x false (steps b) (2 ^ 149) (value_of p)

-- so is its pattern no higher
pub pattern-under : {x y : Float} {b : ℕ} → T (fits binary32 x) → NeverBelow x → Pattern y b → le x y ≡ true → Pattern x (to_bits binary32 x) × (to_bits binary32 x ≤ b)
pattern-under {x} {y} held plus q h =
    let fine = le-finite y plus (pattern-finite q) h in
    let p = pattern-of x held fine.0 fine.1 in
    (p, le-most p q h)

-- what is above zero is not below it
above-plus : (x : Float) → T (above x) → NotBelow x
above-plus nan h = absurd h
above-plus (inf true) h = absurd h
above-plus (inf false) h = infinite
above-plus (fin true m e) h = absurd h
above-plus (fin false m e) h = number

-- what lies between two of which the lower is above zero has a pattern between theirs
pub pattern-between : {x y z : Float} {a b : ℕ} → T (fits binary32 y) → 0 < a → Pattern x a → Pattern z b → le x y ≡ true → le y z ≡ true
    → Pattern y (to_bits binary32 y) × (a ≤ to_bits binary32 y) × (to_bits binary32 y ≤ b)
pattern-between {x} {y} {z} {a} held some p r h k =
    let more : 0 < steps a = omega (arith, steps-rise 0 a some) in
    let low : T (positive x) = positive_of_value x (steps a) (2 ^ 149) (value_of p) more in
    let q = pattern-under held (some_number (above-plus y (above_of_le x y low (rw h tt)))) r k in
    (q.0, le-most p q.0 h, q.1)

-- ---- a number that f32 has is rounded to itself

-- two floats with one value are one
same_float : (x y : Float) (s : Bool) (a : ℕ) → T (fits binary32 x) → T (fits binary32 y) → HasValue x s a (2 ^ 149) → HasValue y s a (2 ^ 149) → x ≡ y
same_float x y s a p q v u =
    sym (of_bits-to_bits binary32 x p)
    ∙ ap (of_bits binary32) (bits_of_value binary32 s x a v ∙ sym (bits_of_value binary32 s y a u))
    ∙ of_bits-to_bits binary32 y q

top-steps : steps 0x7f80_0000 ≤ 2 ^ 277
unfolding steps
top-steps = lit≤ tt

pub round-steps : (b : ℕ) → b < 0x7f80_0000 → round binary32 false (steps b) (2 ^ 149) ≡ of_bits binary32 b
round-steps b h =
    let parts = steps-parts b in
    let is = parts.2.is in
    let fine : parts.0 * 2 ^ parts.2.shift < 2 ^ 277 = lt_of_le_of_lt (le_of_eq (sym is)) (lt_of_lt_of_le (steps-rise b 0x7f80_0000 h) top-steps) in
    same_float (round binary32 false (steps b) (2 ^ 149)) (of_bits binary32 b) false (steps b)
    (round-fits binary32 false (steps b) (2 ^ 149))
    (of_bits-fits binary32 b)
    (round_exact binary32 false (steps b) (2 ^ 149) parts.0 parts.2.shift (pow_pos 149) parts.1 fine (ap (λ (n : ℕ). n * 2 ^ 149) is))
    (steps-value b h)

-- ---- the product

-- by any fractions that the factors are
mul-values : (f : Format) (x y : Float) (a c b d : ℕ) → 0 < c → 0 < d → HasValue x false a c → HasValue y false b d → mul f x y ≡ round f false (a * b) (c * d)
unfolding mul
mul-values f nan y a c b d C D v u = absurd v
mul-values f (inf s) y a c b d C D v u = absurd v
mul-values f (fin true m e) y a c b d C D v u = absurd (true≢false v.0)
mul-values f (fin false m e) nan a c b d C D v u = absurd u
mul-values f (fin false m e) (inf s) a c b d C D v u = absurd u
mul-values f (fin false m e) (fin true n g) a c b d C D v u = absurd (true≢false u.0)
mul-values f (fin false m e) (fin false n g) a c b d C D v u =
    round_same f false (m * up e * (n * up g)) (down e * down g) (a * b) (c * d) (mul-pos (down_pos e) (down_pos g)) (mul-pos C D)
    (mul-mul-mul_comm (m * up e) (n * up g) c d
    ∙ ap (λ (z : ℕ). z * (n * up g * d)) v.1
    ∙ ap (λ (z : ℕ). a * down e * z) u.1
    ∙ mul-mul-mul_comm a (down e) b (down g))

-- with w for 2^149, the steps of 1
module _ {x y : Float} {a b : ℕ} (p : Pattern x a) (q : Pattern y b) where
  product : mul binary32 x y ≡ round binary32 false (steps a * steps b) (2 ^ 149 * 2 ^ 149)
  product = mul-values binary32 x y (steps a) (2 ^ 149) (steps b) (2 ^ 149) (pow_pos 149) (pow_pos 149) (value_of p) (value_of q)

  -- which is not below zero
  product-plus : NotBelow (mul binary32 x y)
  product-plus = rw product (round-sign binary32 (steps a * steps b) (2 ^ 149 * 2 ^ 149))

  module _ {z : Float} {c : ℕ} (r : Pattern z c) where
    -- a number that f32 has is at most the product where it is at most the exact product
    pub product-least : steps c * 2 ^ 149 ≤ steps a * steps b → le z (mul binary32 x y) ≡ true
    product-least h =
        rw (r.is, ← round-steps c r.below, product)
        (is_true _ (round_mono binary32 (steps c) (2 ^ 149) (steps a * steps b) (2 ^ 149 * 2 ^ 149) (pow_pos 149) (mul-pos (pow_pos 149) (pow_pos 149))
        (le_trans (le_of_eq (sym (mul_assoc (steps c) (2 ^ 149) (2 ^ 149)))) (mul-le-mul_right (2 ^ 149) h))))

    -- and the product is at most it where the exact product is
    pub product-most : steps a * steps b ≤ steps c * 2 ^ 149 → Pattern (mul binary32 x y) (to_bits binary32 (mul binary32 x y)) × (to_bits binary32 (mul binary32 x y) ≤ c)
    product-most h =
        pattern-under (mul-fits binary32 x y) (some_number product-plus) r
        (rw (r.is, ← round-steps c r.below, product)
        (is_true _ (round_mono binary32 (steps a * steps b) (2 ^ 149 * 2 ^ 149) (steps c) (2 ^ 149) (mul-pos (pow_pos 149) (pow_pos 149)) (pow_pos 149)
        (le_trans (mul-le-mul_right (2 ^ 149) h) (le_of_eq (mul_assoc (steps c) (2 ^ 149) (2 ^ 149)))))))

-- ---- by powers of two

-- twice a pattern's number is a pattern's number
steps-double : (b : ℕ) → (c : ℕ) × (steps c ≡ steps b * 2) × (c ≤ b + 0x80_0000)
steps-double b = ⊎_elim low (λ h. (b + 1 * 0x80_0000, steps-higher 1 b h, omega arith)) (lt-or-le b 0x80_0000)
  where
    low : b < 0x80_0000 → (c : ℕ) × (steps c ≡ steps b * 2) × (c ≤ b + 0x80_0000)
    low h =
        let half : steps b ≡ b = steps_low b (omega arith) in
        let plain : b * 2 ≡ 0 * 0x80_0000 + b * 2 = omega arith in
        (b * 2, rw half (⊎_elim (λ l. steps_low (b * 2) (omega arith)) (λ l. ap steps plain ∙ steps-normal 0 (b * 2) l (omega arith) ∙ mul-one (b * 2)) (lt-or-le (b * 2) 0x80_0000)), omega arith)

-- and so is 2^k times it
pub steps-times : (k b : ℕ) → (c : ℕ) × (steps c ≡ steps b * 2 ^ k) × (c ≤ b + k * 0x80_0000)
steps-times zero b = (b, sym (mul-one (steps b)), omega arith)
steps-times (suc k) b =
    let r = steps-times k b in
    let s = steps-double r.0 in
    (s.0, s.1 ∙ ap (λ (n : ℕ). n * 2) r.1 ∙ mul_assoc (steps b) (2 ^ k) 2 ∙ ap (λ (n : ℕ). steps b * n) (sym (pow-suc 2 k)), omega (arith, s.2, r.2))

-- so a product by at most 2^k is at most that, if nothing overflows
pub product-under : {x y : Float} {a b : ℕ} (k : ℕ) → Pattern x a → Pattern y b → steps a ≤ 2 ^ k * 2 ^ 149 → b + k * 0x80_0000 < 0x7f80_0000
    → (c : ℕ) × Pattern (mul binary32 x y) c × (steps c ≤ steps b * 2 ^ k) × (c ≤ b + k * 0x80_0000)
product-under {x} {y} {a} {b} k p q most fine =
    let r = steps-times k b in
    let m = product-most p q (literal r.0 (lt_of_le_of_lt r.2 fine)) (rw r.1 (le_trans (mul-le-mul_right (steps b) most) (le_of_eq (go (2 ^ 149) (2 ^ k) (steps b))))) in
    (to_bits binary32 (mul binary32 x y), m.0, le_trans (steps-mono _ _ m.1) (le_of_eq r.1), le_trans m.1 r.2)
  where
    go : (w t n : ℕ) → t * w * n ≡ n * t * w
    go w t n = simp (mul_assoc, mul_comm, mul_left_comm)

-- ---- the root

pub root-pattern : {x : Float} {b : ℕ} → Pattern x b → Pattern (root x) (finite_root b)
unfolding root
root-pattern {x} {b} p = record {
  below = root_below b p.below;
  is = ap (λ (n : ℕ). of_bits binary32 (root_bits n)) back ∙ ap (of_bits binary32) (root_bits-finite b p.below);
}
  where
    back : to_bits binary32 x ≡ b
    back =
        let P = p.below in
        rw p.is (to_bits-of_bits binary32 b (omega arith) (subst (λ (t : Bool). T (not t)) (sym (sym (nan_bits_is binary32 b) ∙ no-nan-bits b P)) tt))

-- a root's number is 2^k times a pattern's, for a k up to 50
pub root-part : (k b : ℕ) → k ≤ 50 → b < 0x7f80_0000 → (c : ℕ) × (steps (finite_root b) ≡ steps c * 2 ^ k) × (c ≤ finite_root b)
root-part k b few h = ⊎_elim some none (lt-or-le 0 b)
  where
    some : 0 < b → (c : ℕ) × (steps (finite_root b) ≡ steps c * 2 ^ k) × (c ≤ finite_root b)
    some s =
        let high : 0x1a00_0000 ≤ finite_root b = root-high b s h in
        let c = finite_root b - k * 0x80_0000 in
        let up : c + k * 0x80_0000 ≡ finite_root b = omega arith in
        (c, ap steps (sym up) ∙ steps-higher k c (omega arith), omega arith)

    none : b ≤ 0 → (c : ℕ) × (steps (finite_root b) ≡ steps c * 2 ^ k) × (c ≤ finite_root b)
    none z =
        let is : b ≡ 0 = omega arith in
        let nothing : steps 0 ≡ 0 = steps_low 0 (omega arith) in
        (0, rw (is, root-of-zero, nothing) (sym (zero-mul (2 ^ k))), omega arith)
