-- Sums of floats that are not below zero, and squares, are not below zero; a sum is then no NaN.
use Rattle.std.proofs.Common.{ℕ, zero, suc, ◌+◌, ◌*◌, ◌^◌, Bool, true, false, cond, ltb, ℤ}
use lib.Ieee.{Float, nan, inf, fin, Format, prec, emax, low, odd, units, round, sum, add, mul}
use lib.Ieee.Fits.{round_is}

-- a number or an infinity whose sign is clear
pub data NotBelow : Float → Type 0 where
  number : {m : ℕ} {e : ℤ} → NotBelow (fin false m e)
  infinite : NotBelow (inf false)

-- ---- rounding keeps the sign

either : (b : Bool) {x y : Float} → NotBelow x → NotBelow y → NotBelow (cond b x y)
either true h k = h
either false h k = k

odd_sign : (d q k l : ℕ) → NotBelow (odd d false q k l)
unfolding odd
odd_sign d zero k l = number
odd_sign d (suc q) k l = number

units-sign : (f : Format) (q k : ℕ) → NotBelow (units f false q k)
unfolding units
units-sign f q k = either (ltb (q * 2 ^ k) (2 ^ (low f + suc (emax f)))) (odd_sign (suc (prec f)) q k (low f)) infinite

pub round-sign : (f : Format) (a c : ℕ) → NotBelow (round f false a c)
round-sign f a c = rw (round_is f false a c) (units-sign f _ _)

-- ---- sums

pub add-not-below : (f : Format) {x y : Float} → NotBelow x → NotBelow y → NotBelow (add f x y)
unfolding add sum
add-not-below f number number = round-sign f _ _
add-not-below f number infinite = infinite
add-not-below f infinite number = infinite
add-not-below f infinite infinite = infinite

-- ---- floats that may be a NaN, and are not below zero otherwise

pub data NeverBelow : Float → Type 0 where
  no_number : NeverBelow nan
  some_number : {x : Float} → NotBelow x → NeverBelow x

pub square-never-below : (f : Format) (x : Float) → NeverBelow (mul f x x)
unfolding mul
square-never-below f nan = no_number
square-never-below f (inf true) = some_number infinite
square-never-below f (inf false) = some_number infinite
square-never-below f (fin true m e) = some_number (round-sign f _ _)
square-never-below f (fin false m e) = some_number (round-sign f _ _)

pub add-never-below : (f : Format) {x y : Float} → NeverBelow x → NeverBelow y → NeverBelow (add f x y)
unfolding add
add-never-below f no_number q = no_number
add-never-below f (some_number number) no_number = no_number
add-never-below f (some_number infinite) no_number = no_number
add-never-below f (some_number p) (some_number q) = some_number (add-not-below f p q)
