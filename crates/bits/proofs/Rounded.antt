-- `round f` on m * 2^k / 2^l, a number with the digits m and an exponent, and the pattern of the result. Both formats in one.
-- In units of f's smallest value the number is m * 2^y / 2^g. The format drops g of the digits: the result is 2^y times the whole number nearest to
-- m / 2^g (`round-digits`). Its pattern is that number with y at the exponent's field added, so that a carry past the top digit moves the field up,
-- and at the largest value to infinity (`round-bits`). For a larger y it is infinity (`round-over`). Assumes nothing.
use Rattle.std.proofs.Common.{◌≡◌, ℕ, zero, suc, ◌+◌, ◌-◌, ◌*◌, ◌/◌, ◌%◌, ◌^◌, ◌<◌, ◌≤◌, Bool, cond, ltb, sym, ap, ◌∙◌, inl, inr, le_trans, le_of_eq, le_refl, lt_of_lt_of_le, add_assoc, mul-le-mul_right, mul_assoc, suc-mul, div-lt_iff_lt-mul, eq-or-lt_of_le, mul-lt-mul_of_pos_right, mul-pos, lt_of_not-le, le-div_iff_mul-le, not-le_of_lt, mul-div_cancel, arith, pow_pos, pow_mono, pow-add, shl_lt, shr_lt}
use Prim.Native.Nat.{compare}
use native.Mathlib.Nat.{two-pow-succ}
use lib.Arith.{le→nltb}
use lib.Pow.{pow-lt}
use lib.Ieee.{Float, nan, inf, fin, Format, prec, emax, low, down, size, odd, units, round, hid, ones, top, to_bits}
use lib.Ieee.Digits.{size-lt, size-le}
use lib.Ieee.Fits.{two, two-le_pos, down_pos, nearest-le, round_is}
use lib.Ieee.Exact.{HasValue, units_val}
use lib.Ieee.Nearest.{closest, closest_same, nearest-ge}
use lib.Ieee.Bits.{cond_no}

-- ---- how many digits a format drops

-- a number from 2^j up has more than j digits
size_above : (n j : ℕ) → 2 ^ j ≤ n → j < size n
size_above n j h = lt_of_not-le (λ (g : size n ≤ j). not-le_of_lt (lt_of_lt_of_le (size-lt n) (pow_mono g)) h)

-- A number n has y digits more than p: exactly so many, or none where y is 0.
drops : (p n y : ℕ) → 0 < p → n < 2 ^ (p + y) → (0 < y → 2 ^ (p - 1 + y) ≤ n) → size n - p ≡ y
drops p n zero P hi lo = omega (arith, size-le n (p + 0) hi)
drops p n (suc y) P hi lo = omega (arith, size-le n (p + suc y) hi, size_above n (p - 1 + suc y) (lo (omega arith)))

-- ---- the rounding

-- m * 2^k of 2^-w over 2^l is m * 2^y / 2^g: the products, and m's range moved along
module _ (m k w l g y : ℕ) (e : k + w + g ≡ l + y) where
  whole : m * 2 ^ k * 2 ^ w ≡ m * 2 ^ (k + w)
  whole = rw (mul_assoc, ← pow-add 2 k w)

  moved : (j : ℕ) → 2 ^ (j + g) * 2 ^ (k + w) ≡ 2 ^ (j + y) * 2 ^ l
  moved j = let exponents : j + g + (k + w) ≡ j + y + l = omega arith in rw (← pow-add 2 (j + g) (k + w), ← pow-add 2 (j + y) l, exponents)

  product : m * 2 ^ k * 2 ^ w * 2 ^ g ≡ m * (2 ^ l * 2 ^ y)
  product = rw (whole, mul_assoc, ← pow-add 2 (k + w) g, ← pow-add 2 l y, e)

  below : (j : ℕ) → m < 2 ^ (j + g) → m * 2 ^ k * 2 ^ w / 2 ^ l < 2 ^ (j + y)
  below j h = (div-lt_iff_lt-mul (pow_pos l)).1 (rw (whole, ← moved j) (mul-lt-mul_of_pos_right h (pow_pos (k + w))))

  above : (j : ℕ) → 2 ^ (j + g) ≤ m → 2 ^ (j + y) ≤ m * 2 ^ k * 2 ^ w / 2 ^ l
  above j h = (le-div_iff_mul-le (pow_pos l)).1 (rw (whole, ← moved j) (mul-le-mul_right (2 ^ (k + w)) h))

-- m has its leading digit, at prec + g digits, or y is 0: the value is subnormal and m may have fewer
pub round-digits : (f : Format) (s : Bool) (m k l g y : ℕ) → k + low f + g ≡ l + y → m < 2 ^ (prec f + g) → (0 < y → 2 ^ (prec f - 1 + g) ≤ m)
    → round f s (m * 2 ^ k) (2 ^ l) ≡ units f s (closest m (2 ^ g)) y
round-digits f s m k l g y e hi lo =
    let n = m * 2 ^ k * 2 ^ low f in
    let w = low f in
    let p = prec f in
    round_is f s (m * 2 ^ k) (2 ^ l)
    ∙ ap (λ (j : ℕ). units f s (closest n (2 ^ l * 2 ^ j)) j)
    (drops p (n / 2 ^ l) y (two-le_pos p (two f)) (below m k w l g y e p hi) (λ some. above m k w l g y e (p - 1) (lo some)))
    ∙ ap (λ (q : ℕ). units f s q y) (closest_same n (2 ^ l * 2 ^ y) m (2 ^ g) (mul-pos (pow_pos l) (pow_pos y)) (pow_pos g) (product m k w l g y e))

-- ---- the pattern

-- the pattern of a value hangs on the value alone
pub bits_of_value : (f : Format) (s : Bool) (x : Float) (a : ℕ) → HasValue x s a (2 ^ low f)
    → to_bits f x ≡ cond s (top f) 0 + (size a - prec f) * hid f + a / 2 ^ (size a - prec f)
unfolding to_bits
bits_of_value f s nan a v = absurd v
bits_of_value f s (inf t) a v = absurd v
bits_of_value f s (fin t m e) a v =
    ap (λ (b : Bool). to_bits f (fin b m e)) v.0
    ∙ ap (λ (n : ℕ). cond s (top f) 0 + (size n - prec f) * hid f + n / 2 ^ (size n - prec f))
    (ap (λ (n : ℕ). n / down e) v.1 ∙ mul-div_cancel a (down_pos e))

-- q * 2^y of the smallest values, q with its leading digit, or y being 0: the digits and the exponent's field, added
bits-of-digits : (f : Format) (s : Bool) (x : Float) (q y : ℕ) → HasValue x s (q * 2 ^ y) (2 ^ low f) → q < 2 ^ prec f → (0 < y → hid f ≤ q)
    → to_bits f x ≡ cond s (top f) 0 + y * hid f + q
bits-of-digits f s x q y v hi lo =
    bits_of_value f s x (q * 2 ^ y) v
    ∙ ap (λ (j : ℕ). cond s (top f) 0 + j * hid f + q * 2 ^ y / 2 ^ j)
    (drops (prec f) (q * 2 ^ y) y (two-le_pos (prec f) (two f)) (shl_lt (prec f) y hi)
    (λ some. rw pow-add (mul-le-mul_right (2 ^ y) (lo some))))
    ∙ ap (λ (d : ℕ). cond s (top f) 0 + y * hid f + d) (mul-div_cancel q (pow_pos y))

-- from 2^(emax + 1) on the result is infinity
units-over : (f : Format) (s : Bool) (q y : ℕ) → 2 ^ (low f + suc (emax f)) ≤ q * 2 ^ y → to_bits f (units f s q y) ≡ cond s (top f) 0 + ones f * hid f
unfolding units to_bits
units-over f s q y h =
    let end = 2 ^ (low f + suc (emax f)) in
    ap (to_bits f) (cond_no (ltb (q * 2 ^ y) end) (odd (suc (prec f)) s q y (low f)) (inf s) (le→nltb (q * 2 ^ y) end h))

-- a carry through all digits: 2^prec * 2^y is the leading digit alone at an exponent that is one larger
carry : (p y : ℕ) → 0 < p → 2 ^ p * 2 ^ y ≡ 2 ^ (p - 1) * 2 ^ suc y
carry p y P = let exponents : p + y ≡ p - 1 + suc y = omega arith in rw (← pow-add 2 p y, ← pow-add 2 (p - 1) (suc y), exponents)

-- so the pattern's field is two more than y, of which one is for the leading digit; and that is infinity's where y is the largest
carry-bits : (f : Format) (s : Bool) (y : ℕ) → suc y < ones f → to_bits f (units f s (2 ^ prec f) y) ≡ cond s (top f) 0 + suc (suc y) * hid f
carry-bits f s y room =
    let p = prec f in
    let P : 0 < p = two-le_pos p (two f) in
    elim (eq-or-lt_of_le room) [
      | inl last ↦ units-over f s (2 ^ p) y (rw (← pow-add 2 p y) (pow_mono (omega (arith, two f)))) ∙ ap (λ (x : ℕ). cond s (top f) 0 + x * hid f) (sym last)
      | inr less ↦
          let fine : 2 ^ p * 2 ^ y < 2 ^ (low f + suc (emax f)) = rw (← pow-add 2 p y) (pow-lt (omega (arith, two f))) in
          let value = rw (carry p y P) at (units_val f s (2 ^ p) y fine) in
          bits-of-digits f s (units f s (2 ^ p) y) (hid f) (suc y) value (pow-lt (omega arith)) (λ some. le_refl (hid f))
          ∙ add_assoc (cond s (top f) 0) (suc y * hid f) (hid f)
          ∙ ap (λ (x : ℕ). cond s (top f) 0 + x) (sym (suc-mul (suc y) (hid f)))
    ]

-- twice the leading digit's weight is 2^prec
joined : (c p y : ℕ) → 0 < p → c + suc (suc y) * 2 ^ (p - 1) ≡ c + y * 2 ^ (p - 1) + 2 ^ p
joined c p y P =
    let exponents : p ≡ suc (p - 1) = omega arith in
    let twice : 2 ^ p ≡ 2 ^ (p - 1) + 2 ^ (p - 1) = ap (λ (x : ℕ). 2 ^ x) exponents ∙ two-pow-succ (p - 1) in
    omega (arith, suc-mul (suc y) (2 ^ (p - 1)), suc-mul y (2 ^ (p - 1)))

-- with a carry or without one, the pattern is the digits added to the field
units-bits : (f : Format) (s : Bool) (q y : ℕ) → q ≤ 2 ^ prec f → (0 < y → hid f ≤ q) → suc y < ones f → to_bits f (units f s q y) ≡ cond s (top f) 0 + y * hid f + q
units-bits f s q y hi lo room =
    elim (eq-or-lt_of_le hi) [
      | inl full ↦ rw full (carry-bits f s y room ∙ joined (cond s (top f) 0) (prec f) y (two-le_pos (prec f) (two f)))
      | inr l ↦
          let fine : q * 2 ^ y < 2 ^ (low f + suc (emax f)) = lt_of_lt_of_le (shl_lt (prec f) y l) (pow_mono (omega (arith, two f))) in
          bits-of-digits f s (units f s q y) q y (units_val f s q y fine) l lo
    ]

-- ---- both

-- what is left of m is at most 2^prec, and has its leading digit where m has
pub closest-hi : (p m g : ℕ) → m < 2 ^ (p + g) → closest m (2 ^ g) ≤ 2 ^ p
closest-hi p m g h = le_trans (nearest-le (m / 2 ^ g) (compare (m % 2 ^ g * 2) (2 ^ g))) (shr_lt p g h)

closest-lo : (p m g : ℕ) → 2 ^ (p + g) ≤ m → 2 ^ p ≤ closest m (2 ^ g)
closest-lo p m g h = le_trans ((le-div_iff_mul-le (pow_pos g)).1 (rw (← pow-add 2 p g) h)) (nearest-ge (m / 2 ^ g) (compare (m % 2 ^ g * 2) (2 ^ g)))

-- the whole way from the fraction to the pattern
module _ (f : Format) (s : Bool) (m k l g y : ℕ) (e : k + low f + g ≡ l + y) (hi : m < 2 ^ (prec f + g)) where
  pub round-bits : (0 < y → 2 ^ (prec f - 1 + g) ≤ m) → suc y < ones f → to_bits f (round f s (m * 2 ^ k) (2 ^ l)) ≡ cond s (top f) 0 + y * hid f + closest m (2 ^ g)
  round-bits lo room =
      ap (to_bits f) (round-digits f s m k l g y e hi lo)
      ∙ units-bits f s (closest m (2 ^ g)) y (closest-hi (prec f) m g hi) (λ some. closest-lo (prec f - 1) m g (lo some)) room

  pub round-over : 2 ^ (prec f - 1 + g) ≤ m → ones f ≤ suc y → to_bits f (round f s (m * 2 ^ k) (2 ^ l)) ≡ cond s (top f) 0 + ones f * hid f
  round-over lo over =
      ap (to_bits f) (round-digits f s m k l g y e hi (λ some. lo))
      ∙ units-over f s (closest m (2 ^ g)) y
      (le_trans (pow_mono (omega (arith, two f))) (le_trans (le_of_eq (pow-add 2 (prec f - 1) y)) (mul-le-mul_right (2 ^ y) (closest-lo (prec f - 1) m g lo))))
