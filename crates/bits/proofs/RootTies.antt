-- No f32 has its root half-way between two neighbours: a half-way point squared has more binary digits than a significand has.
use Rattle.std.proofs.Common.{◌≡◌, ℕ, suc, ◌+◌, ◌-◌, ◌*◌, ◌/◌, ◌%◌, ◌^◌, ◌<◌, ◌≤◌, ◌⊎◌, sym, refl, ap, ◌∙◌, ap₂, inl, inr, le_trans, lt_of_lt_of_le, lt_of_le_of_lt, le_of_lt, lt_irrefl, mul_assoc, mul_comm, add-mul, mul-le-mul_left, mul-lt-mul_of_pos_right, one-mul, lt_of_not-le, mul-one, le-mul_of_pos_right, mul_left_comm, arith, pow_pos, pow_mono, pow-add}
use native.Mathlib.Nat.{mul-mul-mul_comm, pow-succ', eq_of_mul-eq-mul_right}
use Rattle.bits.specs.Root.{steps, halfway, fourfold}
use Rattle.bits.proofs.RootSteps.{lt-or-le, significand, place, steps_low, steps_high, steps-after}

-- ---- a number as an odd part, or a significand, and a power of two

pub record Scaled (n part : ℕ) : Type 0 where
  pub shift : ℕ
  pub is : n ≡ part * 2 ^ shift

pub steps-parts : (b : ℕ) → (m : ℕ) × (m < 0x100_0000) × Scaled (steps b) m
steps-parts b = elim (lt-or-le b 0x80_0000) [
  | inl h ↦ (b, omega arith, record { shift = 0; is = steps_low b (le_of_lt h) ∙ sym (mul-one b) })
  | inr h ↦ (significand b, omega arith, record { shift = place b; is = steps_high b h })
]

-- four times a number, in the squared unit
pub fourfold-is : (b m k : ℕ) → steps b ≡ m * 2 ^ k → fourfold b ≡ m * 2 ^ (k + 151)
unfolding fourfold
fourfold-is b m k e = ap (λ (x : ℕ). 4 * (x * 2 ^ 149)) e ∙ go 149
  where
    go : (w : ℕ) → 4 * (m * 2 ^ k * 2 ^ w) ≡ m * 2 ^ (k + (w + 2))
    go w = rw (pow-add 2 k (w + 2), pow-add 2 w 2) (simp (mul_assoc, mul_comm, mul_left_comm) (mul_left_comm 4 m (2 ^ k * 2 ^ w)))

-- the half-way point above r: its odd part has at least 25 digits, or it is the whole
record Halfway (r : ℕ) : Type 0 where
  part : ℕ
  shift : ℕ
  is : halfway r ≡ part * 2 ^ shift
  odd : part % 2 ≡ 1
  long : (shift ≡ 0) ⊎ (0x100_0000 ≤ part)

halfway-parts : (r : ℕ) → Halfway r
unfolding halfway
halfway-parts r = elim (lt-or-le r 0x80_0000) [
  | inl h ↦
      record {
        part = r + (r + 1);
        shift = 0;
        is = rw (steps_low r (le_of_lt h), steps_low (r + 1) (omega arith)) (sym (mul-one (r + (r + 1))));
        odd = omega arith;
        long = inl refl;
      }
  | inr h ↦
      record {
        part = significand r + (significand r + 1);
        shift = place r;
        is = rw (steps_high r h, steps-after r h) (sym (add-mul (significand r) (significand r + 1) (2 ^ place r)));
        odd = omega arith;
        long = inr (omega arith);
      }
]

-- ---- an odd number times a power of two is no multiple of a higher one

odd-square : (a : ℕ) → a % 2 ≡ 1 → a * a % 2 ≡ 1
odd-square a h =
    let c = a / 2 in
    let e : a ≡ 2 * c + 1 = omega arith in
    let square : a * a ≡ 2 * (c * a) + a = ap (λ (x : ℕ). x * a) e ∙ add-mul (2 * c) 1 a ∙ ap₂ (λ (x y : ℕ). x + y) (mul_assoc 2 c a) (one-mul a) in
    omega arith

odd_part : (a m i d : ℕ) → a % 2 ≡ 1 → a * 2 ^ i ≡ m * 2 ^ (suc d + i) → ⊥
odd_part a m i d odd e =
    let two : m * 2 ^ (suc d + i) ≡ 2 * (m * 2 ^ d) * 2 ^ i =
    rw (pow-add 2 (suc d) i, pow-succ' 2 d) (simp (mul_assoc, mul_comm, mul_left_comm)) in
    let even : a ≡ 2 * (m * 2 ^ d) = eq_of_mul-eq-mul_right (2 ^ i) (pow_pos i) a (2 * (m * 2 ^ d)) (e ∙ two) in
    omega arith

-- and the higher power is the one beside the shorter number
shorter : (a m i t : ℕ) → m < a → a * 2 ^ i ≡ m * 2 ^ t → i < t
shorter a m i t h e = lt_of_not-le (λ (g : t ≤ i).
    lt_irrefl (m * 2 ^ t) (lt_of_le_of_lt (mul-le-mul_left m (pow_mono g)) (rw e at (mul-lt-mul_of_pos_right h (pow_pos i)))))

-- ---- so there is no tie

pub no_tie : (b r : ℕ) → fourfold b ≡ halfway r * halfway r → ⊥
no_tie b r e = go (halfway-parts r) (steps-parts b)
  where
    tie : (a i m k : ℕ) → a % 2 ≡ 1 → (i ≡ 0) ⊎ (0x100_0000 ≤ a) → m < 0x100_0000 → a * a * 2 ^ (i + i) ≡ m * 2 ^ (k + 151) → ⊥
    tie a i m k odd long short same =
        let below : i + i < k + 151 = elim long [
          | inl z ↦ omega arith
          | inr l ↦ shorter (a * a) m (i + i) (k + 151) (lt_of_lt_of_le short (le_trans l (le-mul_of_pos_right a (omega arith)))) same
        ] in
        let d = k + 151 - (i + i) - 1 in
        let sum : k + 151 ≡ suc d + (i + i) = omega arith in
        odd_part (a * a) m (i + i) d (odd-square a odd) (same ∙ ap (λ (x : ℕ). m * 2 ^ x) sum)

    go : Halfway r → (m : ℕ) × (m < 0x100_0000) × Scaled (steps b) m → ⊥
    go h s =
        tie h.part h.shift s.0 s.2.shift h.odd h.long s.1
        (ap (λ (x : ℕ). h.part * h.part * x) (pow-add 2 h.shift h.shift)
        ∙ mul-mul-mul_comm h.part h.part (2 ^ h.shift) (2 ^ h.shift)
        ∙ ap (λ (x : ℕ). x * x) (sym h.is)
        ∙ sym e
        ∙ fourfold-is b s.0 s.2.shift s.2.is)
