-- The statement speaks of the floats that the code computes with: a finite pattern at or above +0 is the number `steps` of 2^-149.
use Rattle.std.proofs.Common.{◌≡◌, ℕ, suc, ◌+◌, ◌*◌, ◌/◌, ◌%◌, ◌^◌, ◌<◌, ◌≤◌, false, ◌⊎◌, sym, subst, inl, inr, le_of_lt, mul-one, arith, ne_eqb}
use lib.Ieee.{binary32, odd, of_fields, of_bits}
use lib.Ieee.Exact.{HasValue, odd_sign}
use borrow.Author.Tests.{lt-leb}
use Rattle.bits.specs.Root.{steps}
use Rattle.bits.proofs.RootSteps.{lt-or-le, significand, place, steps_low, steps_high}

-- what the two fields are read as
fields : (b : ℕ) → b < 0x7f80_0000 → of_bits binary32 b ≡ of_fields binary32 false (b / 0x80_0000) (b % 0x80_0000)
unfolding of_bits
fields b h =
    let whole : b % 0x8000_0000 ≡ b = omega arith in
    rw (lt-leb 0x8000_0000 b (omega arith), whole)

-- the number that a field and digits stand for
low_value : (t : ℕ) → HasValue (of_fields binary32 false 0 t) false t (2 ^ 149)
unfolding of_fields
low_value t = subst (λ (n : ℕ). HasValue (odd 24 false t 0 149) false n (2 ^ 149)) (mul-one t) (odd_sign 24 false t 0 149)

normal-value : (j t : ℕ) → suc j < 255 → HasValue (of_fields binary32 false (suc j) t) false ((0x80_0000 + t) * 2 ^ j) (2 ^ 149)
unfolding of_fields
normal-value j t h = rw (ne_eqb (suc j) 255 (omega arith)) (odd_sign 24 false (0x80_0000 + t) j 149)

pub steps-value : (b : ℕ) → b < 0x7f80_0000 → HasValue (of_bits binary32 b) false (steps b) (2 ^ 149)
steps-value b h = rw (fields b h) (go (lt-or-le b 0x80_0000))
  where
    go : (b < 0x80_0000) ⊎ (0x80_0000 ≤ b) → HasValue (of_fields binary32 false (b / 0x80_0000) (b % 0x80_0000)) false (steps b) (2 ^ 149)
    go (inl l) =
        let field : b / 0x80_0000 ≡ 0 = omega arith in
        let digits : b % 0x80_0000 ≡ b = omega arith in
        rw (steps_low b (le_of_lt l), field, digits) (low_value b)
    go (inr l) =
        let field : b / 0x80_0000 ≡ suc (place b) = omega arith in
        rw (steps_high b l) (subst (λ (x : ℕ). HasValue (of_fields binary32 false x (b % 0x80_0000)) false (significand b * 2 ^ place b) (2 ^ 149)) (sym field)
        (normal-value (place b) (b % 0x80_0000) (omega arith)))
