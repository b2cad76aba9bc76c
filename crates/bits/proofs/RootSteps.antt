-- Patterns as whole numbers of 2^-149: what `steps` is at a pattern that is taken apart, and that it rises with the pattern.
use Rattle.std.proofs.Common.{◌≡◌, ℕ, zero, suc, ◌+◌, ◌-◌, ◌*◌, ◌/◌, ◌%◌, ◌^◌, ◌<◌, ◌≤◌, Bool, true, false, ltb, ◌⊎◌, sym, refl, ap, ◌∙◌, inl, inr, lt_trans, le_of_eq, le_of_suc-le-suc, not-suc-le-zero, le_of_lt, mul_assoc, eq-or-lt_of_le, mul-lt-mul_of_pos_right, add-one, arith, pow_pos, ltb-false, ltb-true, le-ltb, lt-ltb}
use native.Mathlib.Nat.{pow-succ'}
use Rattle.bits.specs.Root.{steps, halfway}

pub lt-or-le : (a b : ℕ) → (a < b) ⊎ (b ≤ a)
lt-or-le a b = go (ltb a b) refl
  where
    go : (t : Bool) → ltb a b ≡ t → (a < b) ⊎ (b ≤ a)
    go true e = inl (ltb-true a b e)
    go false e = inr (ltb-false a b e)

-- ---- a pattern taken apart

-- the field and the significand of a normal pattern: its number is `significand * 2 ^ place`
abbrev pub place : ℕ → ℕ
place b = b / 0x80_0000 - 1

abbrev pub significand : ℕ → ℕ
significand b = 0x80_0000 + b % 0x80_0000

pub steps_high : (b : ℕ) → 0x80_0000 ≤ b → steps b ≡ significand b * 2 ^ place b
unfolding steps
steps_high b h = rw (le-ltb b 0x80_0000 h)

-- the same for a pattern put together; the power of two above the significands counts in
pub steps-normal : (j m : ℕ) → 0x80_0000 ≤ m → m ≤ 0x100_0000 → steps (j * 0x80_0000 + m) ≡ m * 2 ^ j
steps-normal j m low high =
    steps_high (j * 0x80_0000 + m) (omega arith) ∙ elim (eq-or-lt_of_le high) [
      | inl e ↦
          let field : place (j * 0x80_0000 + m) ≡ suc j = omega arith in
          let digits : significand (j * 0x80_0000 + m) ≡ 0x80_0000 = omega arith in
          rw (field, digits, e) (ap (λ (x : ℕ). 0x80_0000 * x) (pow-succ' 2 j) ∙ sym (mul_assoc 0x80_0000 2 (2 ^ j)))
      | inr l ↦
          let field : place (j * 0x80_0000 + m) ≡ j = omega arith in
          let digits : significand (j * 0x80_0000 + m) ≡ m = omega arith in
          rw (field, digits)
    ]

-- up to the first normal pattern the number is the pattern
pub steps_low : (b : ℕ) → b ≤ 0x80_0000 → steps b ≡ b
unfolding steps
steps_low b h = elim (eq-or-lt_of_le h) [
  | inl e ↦ ap steps e ∙ steps-normal 0 0x80_0000 (omega arith) (omega arith) ∙ sym e
  | inr l ↦ rw (lt-ltb b 0x80_0000 l)
]

-- the pattern after a normal one has the next significand
pub steps-after : (b : ℕ) → 0x80_0000 ≤ b → steps (b + 1) ≡ (significand b + 1) * 2 ^ place b
steps-after b h =
    let up : b + 1 ≡ place b * 0x80_0000 + (significand b + 1) = omega arith in
    ap steps up ∙ steps-normal (place b) (significand b + 1) (omega arith) (omega arith)

-- ---- rising

steps_next : (b : ℕ) → steps b < steps (b + 1)
steps_next b = elim (lt-or-le b 0x80_0000) [
  | inl h ↦ rw (steps_low b (le_of_lt h), steps_low (b + 1) (omega arith)) (omega arith)
  | inr h ↦ rw (steps_high b h, steps-after b h) (mul-lt-mul_of_pos_right (omega arith) (pow_pos (place b)))
]

-- a higher pattern is a higher number
pub steps-rise : (a b : ℕ) → a < b → steps a < steps b
steps-rise a zero h = absurd (not-suc-le-zero h)
steps-rise a (suc b) h = rw (← add-one b) (elim (eq-or-lt_of_le (le_of_suc-le-suc h)) [
  | inl e ↦ rw e (steps_next b)
  | inr l ↦ lt_trans (steps-rise a b l) (steps_next b)
])

-- and so are the half-way points
pub halfway-rise : (r s : ℕ) → r ≤ s → halfway r ≤ halfway s
unfolding halfway
halfway-rise r s h = elim (eq-or-lt_of_le h) [
  | inl e ↦ le_of_eq (ap halfway e)
  | inr l ↦
      let this : steps r < steps s = steps-rise r s l in
      let that : steps (r + 1) < steps (s + 1) = steps-rise (r + 1) (s + 1) (omega arith) in
      omega arith
]
