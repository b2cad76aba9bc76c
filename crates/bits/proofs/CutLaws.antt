-- The target never lies above the number of faces, for a ratio from 0 to 1 and a mesh within the limits (document 01, "Target").
-- Each step of `(1.0 - ratio) * F` rounds, and may round up. It never rounds past a whole number that the format holds, here 1 and F.
use Rattle.std.proofs.Common.{◌≡◌, ℕ, suc, ◌+◌, ◌-◌, ◌*◌, ◌^◌, ◌<◌, ◌≤◌, Bool, true, false, cond, ◌&&◌, ◌||◌, T, eqb, ltb, pos, sym, refl, ◌∙◌, true≢false, le_trans, le_of_eq, mul_assoc, mul_comm, mul-le-mul, mul-pos, mul-one, le_of_mul-le-mul_right, arith, eqb→eq, ltb-true, le-ltb, eqb-true}
use native.Mathlib.Nat.{div-le_of_le-mul, min-le_left}
use lib.Ieee.{Float, nan, inf, fin, Format, binary32, prec, emax, low, up, down, odd, units, round, le, sub, sum, mul, of_int}
use lib.Ieee.Fits.{down_pos, round_is, and_l}
use lib.Ieee.Exact.{HasValue, odd_sign}
use lib.Ieee.Order.{le_of_values, round_mono}
use lib.Ieee.Scale.{finite}
use lib.Ieee.Back.{round_whole}
use Rattle.bits.specs.Cut.{zero_float, one_float, cut, target}

-- ---- finite, not negative, and at most n

-- by the fraction that the float is
abbrev AtMost : ℕ → Float → Type 0
AtMost n nan = ⊥
AtMost n (inf s) = ⊥
AtMost n (fin true m e) = ⊥
AtMost n (fin false m e) = m * up e ≤ down e * n

-- whole numbers by the tests that `le` makes
le-tests : (a b : ℕ) (t : Bool) → T (ltb a b || (eqb a b && t)) → a ≤ b
le-tests a b t = go (ltb a b) (eqb a b) refl refl
  where
    go : (p q : Bool) → ltb a b ≡ p → eqb a b ≡ q → T (p || (q && t)) → a ≤ b
    go true q e d h = omega (arith, ltb-true)
    go false true e d h = omega (arith, eqb-true)
    go false false e d h = absurd h

-- not negative, an infinity included
abbrev Plus : Float → Type 0
Plus nan = ⊥
Plus (inf s) = s ≡ false
Plus (fin s m e) = s ≡ false

-- what is at most a float that is n
below-whole : (x y : Float) (n : ℕ) → Plus x → HasValue y false n 1 → T (le x y) → AtMost n x
unfolding le
below-whole nan y n p v h = absurd p
below-whole (inf true) y n p v h = absurd (true≢false p)
below-whole (inf false) nan n p v h = absurd v
below-whole (inf false) (inf t) n p v h = absurd v
below-whole (inf false) (fin t k d) n p v h = absurd h
below-whole (fin true m e) y n p v h = absurd (true≢false p)
below-whole (fin false m e) nan n p v h = absurd v
below-whole (fin false m e) (inf t) n p v h = absurd v
below-whole (fin false m e) (fin true k d) n p v h = absurd (true≢false v.0)
below-whole (fin false m e) (fin false k d) n p v h =
    let is : k * up d ≡ n * down d = sym (mul-one (k * up d)) ∙ v.1 in
    le_of_mul-le-mul_right (le_trans (le-tests (m * up e * down d) (k * up d * down e) true h) (le_of_eq (rw is (simp (mul_assoc, mul_comm))))) (down_pos d)

-- ---- rounding

-- the sign is kept, first without overflow and then with it
odd-plus : (d q k l : ℕ) → Plus (odd d false q k l)
odd-plus d q k l = go (odd d false q k l) (odd_sign d false q k l)
  where
    go : (x : Float) → HasValue x false (q * 2 ^ k) (2 ^ l) → Plus x
    go nan v = v
    go (inf s) v = absurd v
    go (fin s m e) v = v.0

units-plus : (f : Format) (q k : ℕ) → Plus (units f false q k)
unfolding units
units-plus f q k = go (ltb (q * 2 ^ k) (2 ^ (low f + suc (emax f))))
  where
    go : (b : Bool) → Plus (cond b (odd (suc (prec f)) false q k (low f)) (inf false))
    go true = odd-plus (suc (prec f)) q k (low f)
    go false = refl

-- a / b, not above a whole number n that the format holds, rounds to at most n
round-most : (f : Format) (a b n : ℕ) → 0 < b → n ≤ 2 ^ prec f → a ≤ b * n → AtMost n (round f false a b)
round-most f a b n B N h =
    below-whole (round f false a b) (round f false n 1) n
    (rw (round_is f false a b) (units-plus f _ _))
    (round_whole f false n N)
    (round_mono f a b n 1 B (omega arith) (rw (mul-one, mul_comm n b) h))

-- ---- the steps of the target

-- 1.0 - ratio is at most 1. A ratio of -0.0 passes the tests, and gives 1.0
sub-most : (ratio : Float) → T (le zero_float ratio) → T (le ratio one_float) → AtMost 1 (sub binary32 one_float ratio)
unfolding le sub sum
sub-most nan l h = absurd l
sub-most (inf true) l h = absurd l
sub-most (inf false) l h = absurd h
sub-most (fin true m e) l h =
    let nothing : 0 * down e ≡ m * up e * 1 = eqb→eq (0 * down e) (m * up e * 1) (and_l (eqb (0 * down e) (m * up e * 1)) (eqb (0 * down e) 0) l) in
    round-most binary32 (1 * down e + m * up e * 1) (1 * down e) 1 (omega (arith, down_pos e)) (omega arith) (omega arith)
sub-most (fin false m e) l h =
    rw (le-ltb (1 * down e) (m * up e * 1) (le-tests (m * up e * 1) (1 * down e) true h))
    (round-most binary32 (1 * down e - m * up e * 1) (1 * down e) 1 (omega (arith, down_pos e)) (omega arith) (omega arith))

-- a product with a factor of at most 1 is at most the other's bound
mul_most : (f : Format) (x y : Float) (n : ℕ) → n ≤ 2 ^ prec f → AtMost 1 x → AtMost n y → AtMost n (mul f x y)
unfolding mul
mul_most f nan y n N p q = absurd p
mul_most f (inf s) y n N p q = absurd p
mul_most f (fin true m e) y n N p q = absurd p
mul_most f (fin false m e) nan n N p q = absurd q
mul_most f (fin false m e) (inf s) n N p q = absurd q
mul_most f (fin false m e) (fin true k d) n N p q = absurd q
mul_most f (fin false m e) (fin false k d) n N p q =
    round-most f (m * up e * (k * up d)) (down e * down d) n (mul-pos (down_pos e) (down_pos d)) N
    (le_trans (mul-le-mul p q) (le_of_eq (simp (mul-one, mul_assoc))))

-- the cut goes down
cut_most : (x : Float) (n : ℕ) → AtMost n x → cut x ≤ n
unfolding cut
cut_most nan n p = absurd p
cut_most (inf s) n p = absurd p
cut_most (fin true m e) n p = absurd p
cut_most (fin false m e) n p = le_trans (min-le_left _ _) (div-le_of_le-mul (down e) p)

-- what is at most n is a number, and not below zero
proper : (n : ℕ) (x : Float) → AtMost n x → T (finite x) × T (le zero_float x)
unfolding le
proper n nan p = absurd p
proper n (inf s) p = absurd p
proper n (fin true m e) p = absurd p
proper n (fin false m e) p = (tt, le_of_values zero_float (fin false m e) 0 1 (m * up e) (down e) (omega arith) (down_pos e) (refl, refl) (refl, refl) (omega arith))

-- what is cut: the product in f32
abbrev pub product : Float → ℕ → Float
product ratio faces = mul binary32 (sub binary32 one_float ratio) (of_int binary32 (pos faces))

-- a ratio from 0 to 1, and a number of faces within the limit
module _ (ratio : Float) (faces : ℕ) (from_zero : T (le zero_float ratio)) (to_one : T (le ratio one_float)) (limit : faces ≤ 131072) where
  -- the product is at most the number of faces
  product-most : AtMost faces (product ratio faces)
  unfolding of_int
  product-most =
      mul_most binary32 (sub binary32 one_float ratio) (round binary32 false faces 1) faces (omega arith)
      (sub-most ratio from_zero to_one)
      (round-most binary32 faces 1 faces (omega arith) (omega arith) (omega arith))

  -- the target is at most the number of faces
  pub target-most : target ratio faces ≤ faces
  unfolding target
  target-most = cut_most (product ratio faces) faces product-most

  -- nothing overflowed on the way, and nothing came out below zero
  pub product-proper : T (finite (product ratio faces)) × T (le zero_float (product ratio faces))
  product-proper = proper faces (product ratio faces) product-most
