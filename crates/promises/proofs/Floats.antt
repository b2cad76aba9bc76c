-- Floats by a bound on their size: sums, differences, products and quotients of bounded floats are bounded, in either format, whatever is rounded on
-- the way. A bound is a number that the format has, and rounding never passes such a number. Assumes nothing.
use Prim.Native.Nat.{ℕ, zero, suc, ◌+◌, ◌-◌, ◌*◌, ◌^◌, ◌≤◌, ◌<◌}
use native.Mathlib.Nat.{le_trans, le_of_eq, sub-le, add-le-add, mul-one, mul_comm, mul_assoc, mul_left_comm, mul_right_comm, mul-mul-mul_comm, add-mul, mul-le-mul, mul-le-mul_right, le_of_mul-le-mul_right, mul-pos, mul-lt-mul_of_pos_right, lt_of_lt_of_le, lt_of_le_of_lt}
use native.Mathlib.Omega.{arith}
use mathlib.Core.Path.{◌≡◌, refl, sym, ap, ◌∙◌}
use mathlib.Core.Bool.{Bool, true, false, ◌&&◌, ◌||◌, beq, cond, true≢false}
use lib.IntN.{ℤ}
use lib.Dec.{T, ltb, eqb}
use lib.Pow.{pow-add, pow_pos, pow-lt}
use lib.Ieee.{Float, nan, inf, fin, Format, prec, emax, low, up, down, unlike, odd, units, round, neg, sum, add, sub, mul, div, le}
use lib.Ieee.Fits.{down_pos, round_is}
use lib.Ieee.Exact.{HasValue, round_exact}
use lib.Ieee.Order.{round_mono}
use lib.Ieee.Scale.{finite}
use lib.Ieee.Positive.{first_pos}
use borrow.Author.Tests.{ltb-true, eqb-true, ne_eqb}
use Rattle.bits.proofs.NotBelowZero.{NotBelow, number, infinite}

-- ---- the bound

-- finite, and at most k * 2^g in size
pub data AtMost (k g : ℕ) : Float → Type 0 where
  most : {s : Bool} {m : ℕ} {e : ℤ} → m * up e ≤ k * 2 ^ g * down e → AtMost k g (fin s m e)

-- the format has the number k * 2^g: k has no more digits than the format keeps, and the whole isn't too large
pub record Has (f : Format) (k g : ℕ) : Type 0 where
  pub few : k < 2 ^ prec f
  pub fine : k * 2 ^ g < 2 ^ suc (emax f)

-- by a power of two that k does not pass
pub has-power : (f : Format) (k g p : ℕ) → k ≤ 2 ^ p → p < prec f → p + g < suc (emax f) → Has f k g
has-power f k g p h few fine = record {
  few = lt_of_le_of_lt h (pow-lt few);
  fine = lt_of_le_of_lt (le_trans (mul-le-mul_right (2 ^ g) h) (le_of_eq (sym (pow-add 2 p g)))) (pow-lt fine);
}

-- what is bounded is finite
pub most-finite : {k g : ℕ} {x : Float} → AtMost k g x → finite x ≡ true
most-finite (most h) = refl

-- a wider bound
pub most-wider : {k g : ℕ} (j i : ℕ) {x : Float} → k * 2 ^ g ≤ j * 2 ^ i → AtMost k g x → AtMost j i x
most-wider j i wide (most {e = e} h) = most (le_trans h (mul-le-mul_right (down e) wide))

-- ---- rounding

-- one of two floats that are not negative
either : (b : Bool) {x y : Float} → NotBelow x → NotBelow y → NotBelow (cond b x y)
either true h k = h
either false h k = k

-- rounding keeps the sign: first without overflow
odd-plus : (d q k l : ℕ) → NotBelow (odd d false q k l)
unfolding odd
odd-plus d zero k l = number
odd-plus d (suc q) k l = number

-- then with it
units-plus : (f : Format) (q k : ℕ) → NotBelow (units f false q k)
unfolding units
units-plus f q k = either (ltb (q * 2 ^ k) (2 ^ (low f + suc (emax f)))) (odd-plus (suc (prec f)) q k (low f)) infinite

-- and so as a whole
pub round-plus : (f : Format) (a c : ℕ) → NotBelow (round f false a c)
round-plus f a c = rw (round_is f false a c) (units-plus f _ _)

-- whole numbers by the tests that `le` makes
pub le-tests : (a b : ℕ) (t : Bool) → T (ltb a b || (eqb a b && t)) → a ≤ b
le-tests a b t = go (ltb a b) (eqb a b) refl refl
  where
    go : (p q : Bool) → ltb a b ≡ p → eqb a b ≡ q → T (p || (q && t)) → a ≤ b
    go true q e d h = omega (arith, ltb-true)
    go false true e d h = omega (arith, eqb-true)
    go false false e d h = absurd h

-- what is at most a float that is the bound
below-bound : (k g : ℕ) {x : Float} (y : Float) → NotBelow x → HasValue y false (k * 2 ^ g) 1 → T (le x y) → AtMost k g x
unfolding le
below-bound k g nan p v h = absurd v
below-bound k g (inf t) p v h = absurd v
below-bound k g (fin true n d) p v h = absurd (true≢false v.0)
below-bound k g (fin false n d) infinite v h = absurd h
below-bound k g (fin false n d) (number {m} {e}) v h =
    let is : n * up d ≡ k * 2 ^ g * down d = sym (mul-one (n * up d)) ∙ v.1 in
    most {e = e} (le_of_mul-le-mul_right (le_trans (le-tests (m * up e * down d) (n * up d * down e) true h) (le_of_eq (rw is (mul_right_comm (k * 2 ^ g) (down d) (down e))))) (down_pos d))

-- the bound itself is rounded to itself
bound-exact : (f : Format) (k g : ℕ) → Has f k g → HasValue (round f false (k * 2 ^ g) 1) false (k * 2 ^ g) 1
bound-exact f k g has =
    let regroup : k * 2 ^ (g + low f) ≡ k * 2 ^ g * 2 ^ low f = ap (λ (x : ℕ). k * x) (pow-add 2 g (low f)) ∙ sym (mul_assoc k (2 ^ g) (2 ^ low f)) in
    let all : 2 ^ suc (emax f) * 2 ^ low f ≡ 2 ^ (low f + suc (emax f)) = mul_comm (2 ^ suc (emax f)) (2 ^ low f) ∙ sym (pow-add 2 (low f) (suc (emax f))) in
    round_exact f false (k * 2 ^ g) 1 k (g + low f) (omega arith) has.few
    (lt_of_le_of_lt (le_of_eq regroup) (lt_of_lt_of_le (mul-lt-mul_of_pos_right has.fine (pow_pos (low f))) (le_of_eq all)))
    (sym (mul-one (k * 2 ^ (g + low f)) ∙ regroup))

-- either sign is as large: first without overflow
odd-any : (k g d : ℕ) (s : Bool) (q j l : ℕ) → AtMost k g (odd d false q j l) → AtMost k g (odd d s q j l)
unfolding odd
odd-any k g d s zero j l (most h) = most h
odd-any k g d s (suc q) j l (most h) = most h

-- then with it
units-any : (k g : ℕ) (f : Format) (s : Bool) (q j : ℕ) → AtMost k g (units f false q j) → AtMost k g (units f s q j)
unfolding units
units-any k g f s q j = go (ltb (q * 2 ^ j) (2 ^ (low f + suc (emax f))))
  where
    go : (b : Bool) → AtMost k g (cond b (odd (suc (prec f)) false q j (low f)) (inf false)) → AtMost k g (cond b (odd (suc (prec f)) s q j (low f)) (inf s))
    go true h = odd-any k g (suc (prec f)) s q j (low f) h
    go false h = elim h [ ]

-- a fraction a / c that is at most the bound rounds to at most the bound
pub round-most : (f : Format) (s : Bool) (a c k g : ℕ) → 0 < c → Has f k g → a ≤ k * 2 ^ g * c → AtMost k g (round f s a c)
round-most f s a c k g C has h =
    rw (round_is f s a c)
    (units-any k g f s _ _
    (rw (round_is f false a c) at (below-bound k g (round f false (k * 2 ^ g) 1) (round-plus f a c)
    (bound-exact f k g has)
    (round_mono f a c (k * 2 ^ g) 1 C (omega arith) (rw mul-one h)))))

-- ---- the operations

-- the other sign
pub neg-most : {k g : ℕ} {x : Float} → AtMost k g x → AtMost k g (neg x)
unfolding neg
neg-most (most h) = most h

-- two fractions with one divisor, either sign each
sum-most : (f : Format) (s : Bool) (a : ℕ) (t : Bool) (b c k g : ℕ) → 0 < c → Has f k g → a + b ≤ k * 2 ^ g * c → AtMost k g (sum f s a t b c)
unfolding sum
sum-most f s a t b c k g C has h = go (beq s t) (ltb a b) (s && ltb b a)
  where
    go : (p q r : Bool) → AtMost k g (cond p (round f s (a + b) c) (cond q (round f t (b - a) c) (round f r (a - b) c)))
    go true q r = round-most f s (a + b) c k g C has h
    go false true r = round-most f t (b - a) c k g C has (le_trans (sub-le b a) (omega arith))
    go false false r = round-most f r (a - b) c k g C has (le_trans (sub-le a b) (omega arith))

-- a sum: the bounds add up
pub add_most : (f : Format) {j k g : ℕ} {x y : Float} → Has f (j + k) g → AtMost j g x → AtMost k g y → AtMost (j + k) g (add f x y)
unfolding add
add_most f {j} {k} {g} has (most {s} {m} {e} h) (most {s = t} {m = n} {e = d} l) =
    let left : m * up e * down d ≤ j * 2 ^ g * (down e * down d) = le_trans (mul-le-mul_right (down d) h) (le_of_eq (mul_assoc (j * 2 ^ g) (down e) (down d))) in
    let right : n * up d * down e ≤ k * 2 ^ g * (down e * down d) =
    le_trans (mul-le-mul_right (down e) l) (le_of_eq (mul_assoc (k * 2 ^ g) (down d) (down e) ∙ ap (λ (z : ℕ). k * 2 ^ g * z) (mul_comm (down d) (down e)))) in
    sum-most f s (m * up e * down d) t (n * up d * down e) (down e * down d) (j + k) g (mul-pos (down_pos e) (down_pos d)) has
    (le_trans (add-le-add left right) (le_of_eq (sym (ap (λ (z : ℕ). z * (down e * down d)) (add-mul j k (2 ^ g)) ∙ add-mul (j * 2 ^ g) (k * 2 ^ g) (down e * down d)))))

-- a difference likewise
pub sub-most : (f : Format) {j k g : ℕ} {x y : Float} → Has f (j + k) g → AtMost j g x → AtMost k g y → AtMost (j + k) g (sub f x y)
unfolding sub
sub-most f has h l = add_most f has h (neg-most l)

-- a product: the bounds multiply
pub mul_most : (f : Format) {i j g h : ℕ} {x y : Float} → Has f (i * j) (g + h) → AtMost i g x → AtMost j h y → AtMost (i * j) (g + h) (mul f x y)
unfolding mul
mul_most f {i} {j} {g} {h} has (most {s} {m} {e} p) (most {s = t} {m = n} {e = d} q) =
    round-most f (unlike s t) (m * up e * (n * up d)) (down e * down d) (i * j) (g + h) (mul-pos (down_pos e) (down_pos d)) has
    (le_trans (mul-le-mul p q)
    (le_of_eq
    (mul-mul-mul_comm (i * 2 ^ g) (down e) (j * 2 ^ h) (down d)
    ∙ ap (λ (z : ℕ). z * (down e * down d)) (mul-mul-mul_comm i (2 ^ g) j (2 ^ h) ∙ ap (λ (z : ℕ). i * j * z) (sym (pow-add 2 g h))))))

-- ---- a bound from below

-- finite, not negative, and at least 2^-g
pub data AtLeast (g : ℕ) : Float → Type 0 where
  least : {m : ℕ} {e : ℤ} → down e ≤ m * up e * 2 ^ g → AtLeast g (fin false m e)

-- the factors of a bound in another order
regrouped : (k g h a b : ℕ) → k * 2 ^ g * a * (b * 2 ^ h) ≡ k * 2 ^ (g + h) * (b * a)
regrouped k g h a b = rw (pow-add 2 g h) (simp (mul_assoc, mul_comm, mul_left_comm))

-- a quotient by what is at least 2^-h
pub div_most : (f : Format) {k g h : ℕ} {x y : Float} → Has f k (g + h) → AtMost k g x → AtLeast h y → AtMost k (g + h) (div f x y)
unfolding div
div_most f {k} {g} {h} has (most {s} {m} {e} p) (least {m = n} {e = d} q) =
    let some : 0 < n * up d = first_pos (n * up d) (2 ^ h) (lt_of_lt_of_le (down_pos d) q) in
    let number : n ≡ 0 → ⊥ = λ z. omega (arith, first_pos n (up d) some) in
    rw (ne_eqb n 0 number)
    (round-most f (unlike s false) (m * up e * down d) (n * up d * down e) k (g + h) (mul-pos some (down_pos e)) has
    (le_trans (mul-le-mul p q) (le_of_eq (regrouped k g h (down e) (n * up d)))))
