-- The order of roots. The root rises with the pattern (`root-mono`). A number that is at most 4^k times another has a root that is at most 2^k times
-- the other's (`root-times`), and a root's square is at most twice the number (`root-square`). No rounding error is worked out for either. Assumes nothing.
use Rattle.std.proofs.Common.{◌≡◌, ℕ, ◌+◌, ◌-◌, ◌*◌, ◌^◌, ◌<◌, ◌≤◌, sym, ap, ◌∙◌, ⊎_elim, zero-le, le_trans, lt_trans, le_of_eq, lt_of_lt_of_le, lt_of_le_of_lt, le_of_lt, lt_irrefl, mul-le-mul_right, mul_assoc, mul_comm, add-mul, mul-le-mul, eq-or-lt_of_le, mul-le-mul_left, mul-lt-mul_of_pos_right, mul-pos, zero-mul, mul_left_comm, arith, lit≤, pow_pos, pow-add}
use native.Mathlib.Nat.{mul-mul-mul_comm}
use Rattle.bits.specs.Root.{steps, halfway, fourfold, finite_root}
use Rattle.bits.proofs.RootSteps.{lt-or-le, significand, place, steps-rise, steps_low, steps_high, steps-normal, steps-after, halfway-rise}
use Rattle.bits.proofs.RootLaws.{root-meets, root-of-zero}

-- ---- the root rises with the pattern

-- so do the numbers that the root's statement compares: those of patterns
pub steps-mono : (a b : ℕ) → a ≤ b → steps a ≤ steps b
steps-mono a b h = ⊎_elim (λ e. le_of_eq (ap steps e)) (λ l. le_of_lt (steps-rise a b l)) (eq-or-lt_of_le h)

-- and four times those
fourfold-mono : (a b : ℕ) → a ≤ b → fourfold a ≤ fourfold b
unfolding fourfold
fourfold-mono a b h = go (2 ^ 149)
  where
    go : (w : ℕ) → 4 * (steps a * w) ≤ 4 * (steps b * w)
    go w = mul-le-mul_left 4 (mul-le-mul_right w (steps-mono a b h))

-- the root of a larger pattern is no smaller
pub root-mono : (a b : ℕ) → a ≤ b → b < 0x7f80_0000 → finite_root a ≤ finite_root b
root-mono a b h top = ⊎_elim (λ l. absurd (wrong l)) (λ l. l) (lt-or-le (finite_root b) (finite_root a))
  where
    wrong : finite_root b < finite_root a → ⊥
    wrong l =
        let up : halfway (finite_root b) ≤ halfway (finite_root a - 1) = halfway-rise (finite_root b) (finite_root a - 1) (omega arith) in
        lt_irrefl (halfway (finite_root a - 1) * halfway (finite_root a - 1))
        (lt_of_lt_of_le (lt_trans (lt_of_lt_of_le ((root-meets a (lt_of_le_of_lt h top)).above (omega arith)) (fourfold-mono a b h)) (root-meets b top).below) (mul-le-mul up up))

-- the root of the largest finite pattern is finite
last-root : finite_root 0x7f7f_ffff < 0x7f80_0000
unfolding finite_root
last-root = lit≤ tt

-- and so is every root below it
pub root_below : (b : ℕ) → b < 0x7f80_0000 → finite_root b < 0x7f80_0000
root_below b h = lt_of_le_of_lt (root-mono b 0x7f7f_ffff (omega arith) (lit≤ tt)) last-root

-- the root of the least number that isn't zero has the field 52
first-root : 0x1a00_0000 ≤ finite_root 1
unfolding finite_root
first-root = lit≤ tt

-- so no root but that of zero has a low field
pub root-high : (b : ℕ) → 0 < b → b < 0x7f80_0000 → 0x1a00_0000 ≤ finite_root b
root-high b some top = le_trans first-root (root-mono 1 b some top)

-- ---- powers of two and four

-- a field that is k higher makes the number 2^k times as large
pub steps-higher : (k b : ℕ) → 0x80_0000 ≤ b → steps (b + k * 0x80_0000) ≡ steps b * 2 ^ k
steps-higher k b h =
    let up : b + k * 0x80_0000 ≡ (place b + k) * 0x80_0000 + significand b = omega arith in
    ap steps up
    ∙ steps-normal (place b + k) (significand b) (omega arith) (omega arith)
    ∙ ap (λ (x : ℕ). significand b * x) (pow-add 2 (place b) k)
    ∙ sym (mul_assoc (significand b) (2 ^ place b) (2 ^ k))
    ∙ ap (λ (x : ℕ). x * 2 ^ k) (sym (steps_high b h))

-- and so the half-way point above it
halfway-higher : (k b : ℕ) → 0x80_0000 ≤ b → halfway (b + k * 0x80_0000) ≡ halfway b * 2 ^ k
unfolding halfway
halfway-higher k b h =
    let next : b + k * 0x80_0000 + 1 ≡ b + 1 + k * 0x80_0000 = omega arith in
    rw (next, steps-higher k b h, steps-higher k (b + 1) (omega arith)) (sym (add-mul (steps b) (steps (b + 1)) (2 ^ k)))

-- only zero's number is zero
steps-none : (b : ℕ) → steps b ≤ 0 → b ≡ 0
steps-none b h = ⊎_elim (λ l. omega (arith, steps-rise 0 b l)) (λ l. omega arith) (lt-or-le 0 b)

-- four times the numbers, in the order of the numbers
fourfold-times : (d l q : ℕ) → steps d ≤ steps l * q → fourfold d ≤ fourfold l * q
unfolding fourfold
fourfold-times d l q h = go (2 ^ 149)
  where
    go : (w : ℕ) → 4 * (steps d * w) ≤ 4 * (steps l * w) * q
    go w = le_trans (mul-le-mul_left 4 (mul-le-mul_right w h)) (le_of_eq (simp (mul_assoc, mul_comm, mul_left_comm)))

-- at most 4^k times another's number, by patterns
root-fields : (k d l : ℕ) → 0 < l → d < 0x7f80_0000 → l < 0x7f80_0000 → steps d ≤ steps l * (2 ^ k * 2 ^ k) → finite_root d ≤ finite_root l + k * 0x80_0000
root-fields k d l some D L h = ⊎_elim (λ g. absurd (wrong g)) (λ g. g) (lt-or-le (finite_root l + k * 0x80_0000) (finite_root d))
  where
    wrong : finite_root l + k * 0x80_0000 < finite_root d → ⊥
    wrong g =
        let r = finite_root l in
        let s = finite_root d in
        let high : 0x80_0000 ≤ r = le_trans (lit≤ tt) (root-high l some L) in
        let up : halfway r * 2 ^ k ≤ halfway (s - 1) = rw (halfway-higher k r high) at (halfway-rise (r + k * 0x80_0000) (s - 1) (omega arith)) in
        let squares : halfway r * halfway r * (2 ^ k * 2 ^ k) ≤ halfway (s - 1) * halfway (s - 1) =
        le_trans (le_of_eq (sym (mul-mul-mul_comm (halfway r) (2 ^ k) (halfway r) (2 ^ k)))) (mul-le-mul up up) in
        lt_irrefl (fourfold d)
        (lt_of_le_of_lt (fourfold-times d l (2 ^ k * 2 ^ k) h)
        (lt_trans (mul-lt-mul_of_pos_right (root-meets l L).below (mul-pos (pow_pos k) (pow_pos k)))
        (lt_of_le_of_lt squares ((root-meets d D).above (omega arith)))))

-- a number that is at most 4^k times another has a root that is at most 2^k times the other's
pub root-times : (k d l : ℕ) → d < 0x7f80_0000 → l < 0x7f80_0000 → steps d ≤ steps l * (2 ^ k * 2 ^ k) → steps (finite_root d) ≤ steps (finite_root l) * 2 ^ k
root-times k d l D L h = ⊎_elim some none (lt-or-le 0 l)
  where
    some : 0 < l → steps (finite_root d) ≤ steps (finite_root l) * 2 ^ k
    some s =
        le_trans (steps-mono (finite_root d) (finite_root l + k * 0x80_0000) (root-fields k d l s D L h))
        (le_of_eq (steps-higher k (finite_root l) (le_trans (lit≤ tt) (root-high l s L))))

    none : l ≤ 0 → steps (finite_root d) ≤ steps (finite_root l) * 2 ^ k
    none z =
        let l-zero : l ≡ 0 = omega arith in
        let nothing : steps l ≡ 0 = ap steps l-zero ∙ steps_low 0 (omega arith) in
        let d-zero : d ≡ 0 = steps-none d (le_trans h (le_of_eq (ap (λ (x : ℕ). x * (2 ^ k * 2 ^ k)) nothing ∙ zero-mul (2 ^ k * 2 ^ k)))) in
        le_trans (le_of_eq (ap (λ (x : ℕ). steps (finite_root x)) d-zero ∙ ap steps root-of-zero ∙ steps_low 0 (omega arith))) (omega arith)

-- ---- the square

-- with the number, and a half-way point that is at least one and a half times the root
square-under : (r h n : ℕ) → 3 * r ≤ 2 * h → h * h < 4 * n → r * r ≤ 2 * n
square-under r h n wide under = omega (arith, mul-le-mul wide wide)

-- a root's square is at most twice the number
pub root-square : (b : ℕ) → b < 0x7f80_0000 → steps (finite_root b) * steps (finite_root b) ≤ 2 * (steps b * 2 ^ 149)
unfolding fourfold halfway
root-square b top = ⊎_elim some none (lt-or-le 0 b)
  where
    some : 0 < b → steps (finite_root b) * steps (finite_root b) ≤ 2 * (steps b * 2 ^ 149)
    some s =
        let p = finite_root b - 1 in
        let high : 0x1a00_0000 ≤ finite_root b = root-high b s top in
        let next : p + 1 ≡ finite_root b = omega arith in
        let this : steps p ≡ significand p * 2 ^ place p = steps_high p (omega arith) in
        let that : steps (p + 1) ≡ (significand p + 1) * 2 ^ place p = steps-after p (omega arith) in
        let twice : steps (p + 1) ≤ 2 * steps p = rw (this, that) (le_trans (mul-le-mul_right (2 ^ place p) (omega arith)) (le_of_eq (mul_assoc 2 (significand p) (2 ^ place p)))) in
        rw next at (square-under (steps (p + 1)) (steps p + steps (p + 1)) (steps b * 2 ^ 149) (omega arith) ((root-meets b top).above (omega arith)))

    none : b ≤ 0 → steps (finite_root b) * steps (finite_root b) ≤ 2 * (steps b * 2 ^ 149)
    none z =
        let is : b ≡ 0 = omega arith in
        let nothing : steps (finite_root b) ≡ 0 = ap (λ (x : ℕ). steps (finite_root x)) is ∙ ap steps root-of-zero ∙ steps_low 0 (omega arith) in
        rw nothing zero-le
