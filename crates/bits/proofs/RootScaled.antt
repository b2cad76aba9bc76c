-- From the check that the code makes to the statement. The code has a whole number n, the pattern's number with an even power of two taken out,
-- and a root m of it, rounded: m * m - m < n and n at most m * m + m. The pattern with the significand m is then the nearest root.
use Rattle.std.proofs.Common.{◌≡◌, ℕ, zero, suc, ◌+◌, ◌-◌, ◌*◌, ◌/◌, ◌%◌, ◌^◌, ◌<◌, ◌≤◌, sym, refl, ap, ◌∙◌, subst, inl, inr, le_trans, le_of_eq, lt_of_lt_of_le, lt_of_le_of_lt, le_of_lt, lt_irrefl, mul-le-mul_right, mul_assoc, add-mul, mul-le-mul, eq-or-lt_of_le, mul-le-mul_left, mul-lt-mul_of_pos_right, mul-pos, one-mul, lt_of_not-le, mul-one, mul-add, mul_left_comm, arith, pow_pos, pow_mono, pow-add, shl_lt}
use native.Mathlib.Nat.{mul-mul-mul_comm}
use lib.Count.{count_leading_zeros, leading_top}
use Rattle.bits.specs.Root.{steps, halfway, fourfold, NearestRoot}
use Rattle.bits.specs.Clauses.{Raised}
use Rattle.bits.proofs.RootSteps.{lt-or-le, significand, place, steps-rise, steps-normal, steps_low, steps_high}
use Rattle.bits.proofs.RootTies.{fourfold-is}

-- ---- squares

pub square-next : (p : ℕ) → (p + 1) * (p + 1) ≡ p * p + 2 * p + 1
square-next p = simp (mul-add, add-mul, mul-one, one-mul) (omega arith)

square-double : (p : ℕ) → (p + (p + 1)) * (p + (p + 1)) ≡ 4 * (p * p + p) + 1
square-double p = simp (mul-add, add-mul, mul-one, one-mul) (omega arith)

square-lt : {x y : ℕ} → x < y → x * x < y * y
square-lt {x} {y} h = lt_of_le_of_lt (mul-le-mul_left x (le_of_lt h)) (mul-lt-mul_of_pos_right h (omega arith))

-- ---- a root within the bounds of a significand

root-low : (n m : ℕ) → 0x80_0000 * 0x80_0000 ≤ n → n ≤ m * m + m → 0x80_0000 ≤ m
root-low n m big below = elim (lt-or-le m 0x80_0000) [
  | inl h ↦
      let less : m ≤ 0x7f_ffff = omega arith in
      absurd (omega (arith, mul-le-mul less less))
  | inr h ↦ h
]

pub root-high : (n m : ℕ) → n ≤ 0xff_ffff * 0x100_0000 → m * m < n + m → m < 0x100_0000
root-high n m small above = elim (lt-or-le m 0x100_0000) [ inl h ↦ h | inr h ↦ absurd (omega (arith, mul-le-mul_left m h)) ]

-- ---- the half-way points on each side of a pattern with the field j + 1 and the significand m

module _ (b j n m : ℕ) (same : fourfold b ≡ 4 * n * (2 ^ j * 2 ^ j)) where
  -- in the unit of the field
  scaled : (a : ℕ) → a * 2 ^ j * (a * 2 ^ j) ≡ a * a * (2 ^ j * 2 ^ j)
  scaled a = mul-mul-mul_comm a (2 ^ j) a (2 ^ j)

  unit : 0 < 2 ^ j * 2 ^ j
  unit = mul-pos (pow_pos j) (pow_pos j)

  between : (p : ℕ) → 0x80_0000 ≤ p → p < 0x100_0000 → halfway (j * 0x80_0000 + p) ≡ (p + (p + 1)) * 2 ^ j
  unfolding halfway
  between p low high =
      let up : j * 0x80_0000 + p + 1 ≡ j * 0x80_0000 + (p + 1) = omega arith in
      rw (up, steps-normal j p low (le_of_lt high), steps-normal j (p + 1) (omega arith) (omega arith)) (sym (add-mul p (p + 1) (2 ^ j)))

  over : 0x80_0000 ≤ m → m < 0x100_0000 → n ≤ m * m + m → fourfold b < halfway (j * 0x80_0000 + m) * halfway (j * 0x80_0000 + m)
  over low high below =
      rw (between m low high, scaled (m + (m + 1)), same) (mul-lt-mul_of_pos_right (omega (arith, square-double m)) unit)

  -- below the first significand the next half-way point down lies closer: it is still below the significand itself
  first : 0x80_0000 * 0x80_0000 ≤ n → halfway (j * 0x80_0000 + 0x80_0000 - 1) * halfway (j * 0x80_0000 + 0x80_0000 - 1) < fourfold b
  unfolding halfway
  first big =
      let r = j * 0x80_0000 + 0x80_0000 in
      let up : r - 1 + 1 ≡ r = omega arith in
      let this : steps r ≡ 0x80_0000 * 2 ^ j = steps-normal j 0x80_0000 (omega arith) (omega arith) in
      let less : halfway (r - 1) < 0x100_0000 * 2 ^ j = rw (up, this) (omega (arith, rw this at (steps-rise (r - 1) r (omega arith)))) in
      rw same (lt_of_lt_of_le (square-lt less) (rw (scaled 0x100_0000) (mul-le-mul_right (2 ^ j * 2 ^ j) (omega arith))))

  under : 0x80_0000 ≤ m → m < 0x100_0000 → 0x80_0000 * 0x80_0000 ≤ n → m * m < n + m → halfway (j * 0x80_0000 + m - 1) * halfway (j * 0x80_0000 + m - 1) < fourfold b
  under low high big above = elim (eq-or-lt_of_le low) [
    | inl e ↦ subst (λ (x : ℕ). halfway (j * 0x80_0000 + x - 1) * halfway (j * 0x80_0000 + x - 1) < fourfold b) e (first big)
    | inr l ↦
        let p = m - 1 in
        let down : j * 0x80_0000 + m - 1 ≡ j * 0x80_0000 + p = omega arith in
        let more : p + 1 ≡ m = omega arith in
        let square : m * m ≡ p * p + 2 * p + 1 = rw more at (square-next p) in
        rw (down, between p (omega arith) (omega arith), scaled (p + (p + 1)), same) (mul-lt-mul_of_pos_right (omega (arith, square-double p)) unit)
  ]

  -- the check that the code makes
  pub checked : 0x80_0000 * 0x80_0000 ≤ n → n ≤ 0xff_ffff * 0x100_0000 → m * m < n + m → n ≤ m * m + m → NearestRoot b (j * 0x80_0000 + m)
  checked big small above below =
      let low = root-low n m big below in
      let high = root-high n m small above in
      record { above = λ _. under low high big above; below = over low high below }

-- ---- the number that the code takes the root of: a significand m times a power of two, d, that is made even

pub record Shifted (m d n : ℕ) : Type 0 where
  pub is : n ≡ m * 2 ^ (23 + d % 2)
  pub big : 0x80_0000 * 0x80_0000 ≤ n
  pub small : n ≤ 0xff_ffff * 0x100_0000

-- the shift loses nothing, and the number is within its bounds
pub shifted : (m d : ℕ) → 0x80_0000 ≤ m → m < 0x100_0000 → Shifted m d (m * 2 ^ (d % 2) % 2 ^ 32 * 0x80_0000)
shifted m d low high = go (d % 2) refl
  where
    go : (k : ℕ) → d % 2 ≡ k → Shifted m d (m * 2 ^ k % 2 ^ 32 * 0x80_0000)
    go zero e = record { is = rw e (omega arith); big = omega arith; small = omega arith }
    go (suc zero) e = record { is = rw e (omega arith); big = omega arith; small = omega arith }
    go (suc (suc k)) e = absurd (omega arith)

even_power : (m d : ℕ) → m * 2 ^ (d + 25) ≡ 4 * (m * 2 ^ (23 + d % 2)) * (2 ^ (d / 2) * 2 ^ (d / 2))
even_power m d =
    let sum : d + 25 ≡ 2 + (23 + d % 2) + (d / 2 + d / 2) = omega arith in
    ap (λ (x : ℕ). m * 2 ^ x) sum ∙ go (23 + d % 2) (d / 2)
  where
    go : (s j : ℕ) → m * 2 ^ (2 + s + (j + j)) ≡ 4 * (m * 2 ^ s) * (2 ^ j * 2 ^ j)
    go s j = rw (pow-add 2 (2 + s) (j + j), pow-add 2 2 s, pow-add 2 j j) (simp mul_assoc (mul_left_comm m 4 (2 ^ s * (2 ^ j * 2 ^ j))))

-- what the code returns is the nearest root of every pattern that has this number
pub nearest-of-shifted : (m d n r : ℕ) → Shifted m d n → r * r < n + r → n ≤ r * r + r
    → (b : ℕ) → fourfold b ≡ m * 2 ^ (d + 25) → NearestRoot b (d / 2 * 0x80_0000 + r)
nearest-of-shifted m d n r s above below b e =
    checked b (d / 2) n r (e ∙ even_power m d ∙ ap (λ (x : ℕ). 4 * x * (2 ^ (d / 2) * 2 ^ (d / 2))) (sym s.is)) s.big s.small above below

-- ---- the number of a pattern, as a significand and a power of two

pub raised-normal : (b : ℕ) → 0x80_0000 ≤ b → Raised b (b + 0x3e80_0000)
raised-normal b h =
    let sum : place b + 151 ≡ (b + 0x3e80_0000) / 0x80_0000 + 25 = omega arith in
    let same : significand b ≡ significand (b + 0x3e80_0000) = omega arith in
    fourfold-is b (significand b) (place b) (steps_high b h) ∙ ap (λ (x : ℕ). significand b * 2 ^ x) sum ∙ ap (λ (s : ℕ). s * 2 ^ ((b + 0x3e80_0000) / 0x80_0000 + 25)) same

-- the digits of a subnormal pattern, shifted up by k
pub subnormal-number : (b k : ℕ) → b < 0x80_0000 → k ≤ 23 → fourfold b ≡ b * 2 ^ k * 2 ^ (126 - k + 25)
subnormal-number b k h l =
    let sum : 0 + 151 ≡ k + (126 - k + 25) = omega arith in
    fourfold-is b b 0 (steps_low b (le_of_lt h) ∙ sym (mul-one b))
    ∙ ap (λ (x : ℕ). b * 2 ^ x) sum
    ∙ ap (λ (x : ℕ). b * x) (pow-add 2 k (126 - k + 25))
    ∙ sym (mul_assoc b (2 ^ k) (2 ^ (126 - k + 25)))

-- the shift that brings a subnormal pattern's first digit into the leading place
pub record Leading (b z : ℕ) : Type 0 where
  pub enough : 8 ≤ z
  pub shift : z - 8 ≤ 23
  pub low : 0x80_0000 ≤ b * 2 ^ (z - 8)
  pub high : b * 2 ^ (z - 8) < 0x100_0000

pub leading : (b : ℕ) → 0 < b → b < 0x80_0000 → Leading b (count_leading_zeros 32 b)
leading b h l = go (count_leading_zeros 32 b) (leading_top 32 b h (omega arith))
  where
    go : (z : ℕ) → (j : ℕ) × (z + suc j ≡ 32) × (2 ^ j ≤ b) × (b < 2 ^ suc j) → Leading b z
    go z t =
        let j = t.0 in
        let few : j < 23 = lt_of_not-le (λ (g : 23 ≤ j). lt_irrefl b (lt_of_lt_of_le l (le_trans (pow_mono g) t.2))) in
        let k = z - 8 in
        let digits : j + k ≡ 23 = omega arith in
        let all : suc j + k ≡ 24 = omega arith in
        record {
          enough = omega arith;
          shift = omega arith;
          low = le_trans (le_of_eq (ap (λ (x : ℕ). 2 ^ x) (sym digits) ∙ pow-add 2 j k)) (mul-le-mul_right (2 ^ k) t.2);
          high = subst (λ (x : ℕ). b * 2 ^ k < 2 ^ x) all (shl_lt (suc j) k t.3);
        }
