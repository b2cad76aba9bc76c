-- The square root of an f32, on bit patterns and on floats (document 01, "Square root of a finite f32 at or above +0").
use Rattle.std.specs.Prelude.{ℕ, zero, suc, ◌+◌, ◌-◌, ◌*◌, ◌/◌, ◌%◌, ◌^◌, ◌<◌, Bool, cond, ltb, ◌==◌, from_bits, nat_lt, to_bits, Float}
use Rattle.std.specs.Float.{binary32}

-- ---- the statement, over whole numbers

-- A pattern from +0 up to infinity as a whole number of 2^-149, the smallest step of an f32. A field of 0 has no leading digit.
unfoldable pub steps : ℕ → ℕ
steps b = cond (nat_lt b 0x80_0000) b ((0x80_0000 + b % 0x80_0000) * 2 ^ (b / 0x80_0000 - 1))

-- twice the half-way point between the pattern r and the next one up
unfoldable pub halfway : ℕ → ℕ
unfolding steps
halfway r = steps r + steps (r + 1)

-- four times the pattern b's number, as a number of 2^-298, the square of the smallest step
unfoldable pub fourfold : ℕ → ℕ
unfolding steps
fourfold b = 4 * (steps b * 2 ^ 149)

-- r is the f32 nearest to b's root: b lies above the square of the half-way point below r, and below the square of the one above r
pub record NearestRoot (b r : ℕ) : Type 0 where
  pub above : 0 < r → halfway (r - 1) * halfway (r - 1) < fourfold b
  pub below : fourfold b < halfway r * halfway r

-- ---- the definition that computes

-- The largest r below r + 2^k that passes, bit by bit from the top, for a test that passes up to some number and fails from there on.
unfoldable pub largest : (ℕ → Bool) → ℕ → ℕ → ℕ
largest test zero r = r
largest test (suc k) r = largest test k (cond (test (r + 2 ^ k)) (r + 2 ^ k) r)

-- the largest pattern whose half-way point below, squared, lies below b
unfoldable pub finite_root : ℕ → ℕ
unfolding halfway fourfold largest
finite_root b = largest (λ r. ltb (halfway (r - 1) * halfway (r - 1)) (fourfold b)) 31 0

-- The root of any pattern: -0.0 and +infinity give themselves, and what is below zero or no number gives 7fc00000.
unfoldable pub root_bits : ℕ → ℕ
unfolding finite_root
root_bits b =
    cond (nat_lt b 0x7f80_0000) (finite_root b)
    (cond (b == 0x7f80_0000) 0x7f80_0000
    (cond (b == 0x8000_0000) 0x8000_0000 0x7fc0_0000))

-- the root of a float
unfoldable pub root : Float → Float
unfolding root_bits
root x = from_bits binary32 (root_bits (to_bits binary32 x))
