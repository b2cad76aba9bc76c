-- The signed exponent of an f64, its field less 1023, as an i64: it fits, a test of it is a test of the field (`is_below`, `not-below`, `is-from`, `not-from`),
-- and below the normal range its difference to -97 is the number of places to drop (`places`). `to_z w64 (of_z w64 z)` is the number z of an i64, as the machine
-- reads it. Assumes nothing.
use Rattle.std.proofs.Common.{◌≡◌, ℕ, suc, ◌-◌, ◌<◌, ◌≤◌, Bool, true, false, cond, not, ltb, leb, ℤ, pos, negsuc, ◌-ℤ◌, sym, refl, ap, ◌∙◌, arith, w64, SFits, to_z, of_z, ltb-false, ltb-true, le-ltb, lt-ltb, le-leb, leb-false, leb-true}
use lib.Signed.{lt_z, le_z}
use borrow.Author.Tests.{lt-leb}
use mir.ValLaws.{to_z_pos, to_z-of_z}
use Rattle.bits.specs.Clauses.{field, exponent_for}
use Rattle.bits.proofs.PatternOrder.{ltb_as}

-- the exponent for a field x, by whether x is below 1023
abbrev by : Bool → ℕ → ℤ
by t x = cond t (negsuc (1023 - suc x)) (pos (x - 1023))

-- ---- it fits

fits_by : (t : Bool) (x : ℕ) → x < 2048 → SFits w64 (by t x)
fits_by true x h = record { sfits = omega arith }
fits_by false x h = record { sfits = omega arith }

pub exponent-fits : (b : ℕ) → SFits w64 (exponent_for (field b))
exponent-fits b = fits_by (ltb (field b) 1023) (field b) (omega arith)

-- ---- it compares as the field does

-- of two negative exponents, a negative one and another, and two others
less_by : (s t : Bool) (a b : ℕ) → ltb a 1023 ≡ s → ltb b 1023 ≡ t → lt_z (by s a) (by t b) ≡ ltb a b
less_by true true a b p q = ltb_as a b (1023 - suc b) (1023 - suc a) (λ l. omega (arith, ltb-true, l)) (λ l. omega (arith, ltb-true, l))
less_by true false a b p q = sym (lt-ltb a b (omega (arith, ltb-true, ltb-false)))
less_by false true a b p q = sym (le-ltb a b (omega (arith, ltb-true, ltb-false)))
less_by false false a b p q = ltb_as a b (a - 1023) (b - 1023) (λ l. omega (arith, ltb-false, l)) (λ l. omega (arith, ltb-false, l))

less : (a b : ℕ) → lt_z (exponent_for a) (exponent_for b) ≡ ltb a b
less a b = less_by (ltb a 1023) (ltb b 1023) a b refl refl

-- "at most" is "not above", of numbers and of signed ones
leb-not : (a b : ℕ) → leb a b ≡ not (ltb b a)
leb-not a b = go (ltb b a) refl
  where
    go : (t : Bool) → ltb b a ≡ t → leb a b ≡ not t
    go true e = lt-leb a b (ltb-true b a e)
    go false e = le-leb a b (ltb-false b a e)

le_z-not : (a b : ℤ) → le_z a b ≡ not (lt_z b a)
le_z-not (pos a) (pos b) = leb-not a b
le_z-not (pos a) (negsuc b) = refl
le_z-not (negsuc a) (pos b) = refl
le_z-not (negsuc a) (negsuc b) = leb-not b a

at_most : (a b : ℕ) → le_z (exponent_for a) (exponent_for b) ≡ leb a b
at_most a b = le_z-not (exponent_for a) (exponent_for b) ∙ ap not (less b a) ∙ sym (leb-not a b)

-- ---- z is the exponent of the pattern b

module _ (b : ℕ) (z : ℤ) (e : z ≡ exponent_for (field b)) where
  -- the machine keeps it
  pub kept : to_z w64 (of_z w64 z) ≡ exponent_for (field b)
  kept = rw e (to_z-of_z w64 (exponent_for (field b)) (exponent-fits b))

  -- what a test of it says of the field
  pub is_below : (x : ℕ) → lt_z (to_z w64 (of_z w64 z)) (exponent_for x) ≡ true → field b < x
  is_below x t = ltb-true (field b) x (sym (less (field b) x) ∙ rw kept at t)

  pub not-below : (x : ℕ) → lt_z (to_z w64 (of_z w64 z)) (exponent_for x) ≡ false → x ≤ field b
  not-below x t = ltb-false (field b) x (sym (less (field b) x) ∙ rw kept at t)

  pub is-from : (x : ℕ) → le_z (exponent_for x) (to_z w64 (of_z w64 z)) ≡ true → x ≤ field b
  is-from x t = leb-true x (field b) (sym (at_most x (field b)) ∙ rw kept at t)

  pub not-from : (x : ℕ) → le_z (exponent_for x) (to_z w64 (of_z w64 z)) ≡ false → field b < x
  not-from x t = leb-false x (field b) (sym (at_most x (field b)) ∙ rw kept at t)

  -- the places to drop below the normal range: -97 is the exponent for the field 1023 - 97
  pub places : field b ≤ 1023 - 97 → exponent_for (1023 - 97) -ℤ to_z w64 (of_z w64 z) ≡ pos (1023 - 97 - field b)
  places h =
      let x = field b in
      let enough : 97 ≤ suc (1023 - suc x) = omega arith in
      let same : suc (1023 - suc x) - 97 ≡ 1023 - 97 - x = omega arith in
      rw (kept, lt-ltb x 1023 (omega arith), le-ltb (suc (1023 - suc x)) 97 enough) (ap pos same)

  pub places-kept : field b ≤ 1023 - 97 → to_z w64 (of_z w64 (exponent_for (1023 - 97) -ℤ to_z w64 (of_z w64 z))) ≡ pos (1023 - 97 - field b)
  places-kept h = rw (places h) (to_z_pos w64 (1023 - 97 - field b) (omega arith))
