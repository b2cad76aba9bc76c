-- `narrow_bits`, which is the kit's `round binary32` on patterns, by the parts of an f64's pattern b: in the normal range (`normal-is`), below it (`subnormal-is`,
-- `zero_is`) and above it (`infinity-is`, `nan_is`). Each says what the code works out. And on floats: `narrowed-is`. Assumes nothing.
use Rattle.std.proofs.Common.{◌≡◌, ℕ, zero, suc, ◌+◌, ◌-◌, ◌*◌, ◌/◌, ◌%◌, ◌^◌, ◌<◌, ◌≤◌, Bool, true, false, cond, not, T, eqb, leb, ℤ, sym, refl, ap, ◌∙◌, inl, inr, lt_of_lt_of_le, add-zero, lt_irrefl, eq-or-lt_of_le, pow-suc, arith, leb→le, pow_pos, pow_mono, eq-eqb, ne_eqb}
use lib.Dec.{nleb→lt}
use lib.Ieee.{Float, nan, inf, fin, binary32, binary64, low, up, down, odd, round, of_fields, of_bits, to_bits, fits}
use lib.Ieee.Digits.{Equals, odd_val}
use lib.Ieee.Fits.{down_pos, nan-fits, inf-fits, round-fits}
use lib.Ieee.Bits.{of_bits-to_bits}
use lib.Ieee.Scale.{round_same}
use lib.Ieee.Nearest.{closest}
use Rattle.bits.specs.Clauses.{field}
use Rattle.bits.specs.Narrow.{narrowed, narrow_bits}
use Rattle.bits.proofs.HalfEven.{closest-whole, closest-small}
use Rattle.bits.proofs.Rounded.{closest-hi, round-bits, round-over}

-- ---- what a pattern is read as

-- the sign
abbrev negative : ℕ → Bool
negative b = leb (2 ^ 63) b

-- the digits with the leading one, which a field of 0 lacks
abbrev pub digits : ℕ → ℕ
digits b = 2 ^ 52 + b % 2 ^ 52

-- narrowing hangs on the value alone, as any fraction a / c
narrowed-value : (s : Bool) (m : ℕ) (e : ℤ) (a c : ℕ) → 0 < c → Equals (fin s m e) a c → narrowed (fin s m e) ≡ round binary32 s a c
unfolding narrowed
narrowed-value s m e a c p v = round_same binary32 s (m * up e) (down e) a c (down_pos e) p v

narrowed-odd : (d : ℕ) (s : Bool) (q k l : ℕ) → narrowed (odd d s q k l) ≡ round binary32 s (q * 2 ^ k) (2 ^ l)
unfolding odd
narrowed-odd d s zero k l = narrowed-value s _ _ (0 * 2 ^ k) (2 ^ l) (pow_pos l) (odd_val d s zero k l)
narrowed-odd d s (suc q) k l = narrowed-value s _ _ (suc q * 2 ^ k) (2 ^ l) (pow_pos l) (odd_val d s (suc q) k l)

-- the pattern of m * 2^k / 2^1074, which has the sign of b, narrowed
abbrev rounded : ℕ → ℕ → ℕ → ℕ
rounded b m k = to_bits binary32 (round binary32 (negative b) (m * 2 ^ k) (2 ^ low binary64))

-- by the field x
read : (b x : ℕ) → field b ≡ x → narrow_bits b ≡ to_bits binary32 (narrowed (of_fields binary64 (negative b) x (b % 2 ^ 52)))
unfolding narrow_bits of_bits
read b x e = rw (← e)

read-zero : (b : ℕ) → field b ≡ 0 → narrow_bits b ≡ rounded b (b % 2 ^ 52) 0
unfolding of_fields
read-zero b e = read b 0 e ∙ ap (to_bits binary32) (narrowed-odd 53 (negative b) (b % 2 ^ 52) 0 (low binary64))

read-finite : (b x : ℕ) → field b ≡ suc x → suc x < 2047 → narrow_bits b ≡ rounded b (digits b) x
unfolding of_fields
read-finite b x e h =
    read b (suc x) e
    ∙ rw (ne_eqb (suc x) 2047 (λ q. omega arith)) (ap (to_bits binary32) (narrowed-odd 53 (negative b) (digits b) x (low binary64)))

read-top : (b : ℕ) → field b ≡ 2047 → narrow_bits b ≡ to_bits binary32 (narrowed (cond (eqb (b % 2 ^ 52) 0) (inf (negative b)) nan))
unfolding of_fields
read-top b e = read b 2047 e

-- an f64's sign, moved to its place in an f32
sign-place : (b : ℕ) → b < 2 ^ 64 → b / 2 ^ 63 * 2 ^ 31 ≡ cond (negative b) (2 ^ 31) 0
sign-place b h = go (negative b) (leb→le (2 ^ 63) b) (nleb→lt (2 ^ 63) b)
  where
    go : (s : Bool) → (T s → 2 ^ 63 ≤ b) → (T (not s) → b < 2 ^ 63) → b / 2 ^ 63 * 2 ^ 31 ≡ cond s (2 ^ 31) 0
    go true above below = omega (arith, above tt)
    go false above below = omega (arith, below tt)

-- a digit more than 52 is enough for the digits
within : (b : ℕ) → digits b < 2 ^ 53
within b = omega arith

-- ---- the normal range

-- The field, less what it counts too much, and the digits are rounded as one number.
pub normal-is : (b : ℕ) → b < 2 ^ 64 → 1023 - 126 ≤ field b → field b < 1023 + 128
    → b / 2 ^ 63 * 2 ^ 31 + closest (b % 2 ^ 63 - (1023 - 127) * 2 ^ 52) (2 ^ 29) ≡ narrow_bits b
normal-is b h lo hi =
    let y = field b - (1023 - 126) in
    let apart : b % 2 ^ 63 - (1023 - 127) * 2 ^ 52 ≡ y * 2 ^ 23 * 2 ^ 29 + digits b = omega arith in
    let bits : rounded b (digits b) (field b - 1) ≡ cond (negative b) (2 ^ 31) 0 + y * 2 ^ 23 + closest (digits b) (2 ^ 29) =
    round-bits binary32 (negative b) (digits b) (field b - 1) (low binary64) 29 y (omega arith) (within b) (λ some. omega arith) (omega arith) in
    let whole : narrow_bits b ≡ rounded b (digits b) (field b - 1) = read-finite b (field b - 1) (omega arith) (omega arith) in
    rw (apart, whole, bits) (omega (arith, closest-whole (y * 2 ^ 23) (digits b) (2 ^ 29) (omega arith) (omega arith), sign-place b h))

-- ---- below it

-- a whole number of 2^-149, for which g digits drop
low_bits : (b m k g : ℕ) → k + 149 + g ≡ low binary64 → m < 2 ^ 53 → 29 ≤ g → rounded b m k ≡ cond (negative b) (2 ^ 31) 0 + closest m (2 ^ g)
low_bits b m k g e h l =
    round-bits binary32 (negative b) m k (low binary64) g 0 e (lt_of_lt_of_le h (pow_mono {i = 53} (omega arith))) (λ some. absurd (lt_irrefl 0 some)) (omega arith)
    ∙ ap (λ (x : ℕ). x + closest m (2 ^ g)) (add-zero (cond (negative b) (2 ^ 31) 0))

-- the field 1023 - 97 would stand for a last digit of 2^-149
pub subnormal-is : (b : ℕ) → b < 2 ^ 64 → 0 < field b → field b < 1023 - 126 → b / 2 ^ 63 * 2 ^ 31 + closest (digits b) (2 ^ (1023 - 97 - field b)) ≡ narrow_bits b
subnormal-is b h lo hi =
    let g = 1023 - 97 - field b in
    ap (λ (x : ℕ). x + closest (digits b) (2 ^ g)) (sign-place b h)
    ∙ sym (read-finite b (field b - 1) (omega arith) (omega arith) ∙ low_bits b (digits b) (field b - 1) g (omega arith) (within b) (omega arith))

-- at most the smallest normal value
pub subnormal-small : (b : ℕ) → field b < 1023 - 126 → closest (digits b) (2 ^ (1023 - 97 - field b)) ≤ 2 ^ 23
subnormal-small b hi = closest-hi 23 (digits b) (1023 - 97 - field b) (lt_of_lt_of_le (within b) (pow_mono {i = 53} (omega arith)))

-- below a half of 2^-149: zero
none_left : (b m k j : ℕ) → k + 149 + suc j ≡ low binary64 → m < 2 ^ 53 → 53 ≤ j → rounded b m k ≡ cond (negative b) (2 ^ 31) 0
none_left b m k j e h l =
    low_bits b m k (suc j) e h (omega arith)
    ∙ ap (λ (x : ℕ). cond (negative b) (2 ^ 31) 0 + x) (rw (pow-suc 2 j) (closest-small m (2 ^ j) (lt_of_lt_of_le h (pow_mono l))))
    ∙ add-zero (cond (negative b) (2 ^ 31) 0)

pub zero_is : (b : ℕ) → b < 2 ^ 64 → field b < 1023 - 150 → b / 2 ^ 63 * 2 ^ 31 ≡ narrow_bits b
zero_is b h l = sign-place b h ∙ sym (go (field b) refl l)
  where
    go : (x : ℕ) → field b ≡ x → x < 1023 - 150 → narrow_bits b ≡ cond (negative b) (2 ^ 31) 0
    go zero e l = read-zero b e ∙ none_left b (b % 2 ^ 52) 0 924 refl (omega arith) (omega arith)
    go (suc x) e l = read-finite b x e (omega arith) ∙ none_left b (digits b) x (924 - x) (omega arith) (within b) (omega arith)

-- ---- above it

pub nan_is : (b : ℕ) → 0x7ff0_0000_0000_0000 < b % 2 ^ 63 → narrow_bits b ≡ 0x7fc0_0000
unfolding narrowed to_bits
nan_is b h = read-top b (omega arith) ∙ rw (ne_eqb (b % 2 ^ 52) 0 (λ e. omega arith))

-- an f64's infinity, or a number that is too large
pub infinity-is : (b : ℕ) → b < 2 ^ 64 → 1023 + 128 ≤ field b → b % 2 ^ 63 ≤ 0x7ff0_0000_0000_0000 → b / 2 ^ 63 * 2 ^ 31 + 0x7f80_0000 ≡ narrow_bits b
unfolding narrowed to_bits
infinity-is b h lo hi =
    let at_most : field b ≤ 2047 = omega arith in
    ap (λ (x : ℕ). x + 0x7f80_0000) (sign-place b h)
    ∙ sym (elim (eq-or-lt_of_le at_most) [
      | inl e ↦ read-top b e ∙ rw (eq-eqb (b % 2 ^ 52) 0 (omega arith))
      | inr l ↦
          read-finite b (field b - 1) (omega arith) (omega arith)
          ∙ round-over binary32 (negative b) (digits b) (field b - 1) (low binary64) 29 (field b - (1023 - 126)) (omega arith) (within b) (omega arith) (omega arith)
    ])

-- ---- on floats

pub narrowed-fits : (x : Float) → T (fits binary32 (narrowed x))
unfolding narrowed
narrowed-fits nan = nan-fits binary32
narrowed-fits (inf s) = inf-fits binary32 s
narrowed-fits (fin s m e) = round-fits binary32 s (m * up e) (down e)

module _ (x : Float) (h : T (fits binary64 x)) where
  -- narrowing an f64's pattern is narrowing the f64
  pub narrowed-is : of_bits binary32 (narrow_bits (to_bits binary64 x)) ≡ narrowed x
  unfolding narrow_bits
  narrowed-is =
      ap (λ (v : Float). of_bits binary32 (to_bits binary32 (narrowed v))) (of_bits-to_bits binary64 x h)
      ∙ of_bits-to_bits binary32 (narrowed x) (narrowed-fits x)
