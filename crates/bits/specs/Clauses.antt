-- What only the contracts of inner steps name: the exponent of an f64's pattern, by which the code of `narrow` goes; the rows of the root's table; and a
-- pattern whose root is taken, raised.
use Rattle.std.specs.Prelude.{◌≡◌, ℕ, zero, suc, ◌+◌, ◌*◌, ◌/◌, ◌%◌, ◌^◌, cond, ℤ, pos, ◌-ℤ◌, ◌≢◌, nat_le, nat_lt}
use Rattle.bits.specs.Root.{fourfold}

-- ---- narrowing

-- the exponent's field, which stands between the sign and the 52 digits
abbrev pub field : ℕ → ℕ
field b = b % 2 ^ 63 / 2 ^ 52

-- the exponent that a field stands for
abbrev pub exponent_for : ℕ → ℤ
exponent_for x = pos x -ℤ pos 1023

-- ---- the table

-- 0 where e is the entry of k, and 1 where it is not
abbrev pub wrong : ℕ → ℕ → ℕ
wrong k e = cond (nat_le (e * e) (256 * k)) (cond (nat_lt (256 * k) ((e + 1) * (e + 1))) 0 1) 1

-- how many of the first m entries of a row, which start at that of k, are wrong
abbrev pub wrong_in : ℕ → ℕ → ℕ → ℕ
wrong_in zero k row = 0
wrong_in (suc m) k row = wrong k (256 + row % 256) + wrong_in m (k + 1) (row / 256)

-- i is none of the numbers below m: what the last arm of a `match` over them knows
abbrev pub PastAll : ℕ → ℕ → Type 0
PastAll zero i = Unit
PastAll (suc m) i = PastAll m i × (i ≢ m)

-- ---- the root

-- x is the finite pattern b, its field raised by 125 and, where b is subnormal, its digits shifted up to the first and the field lowered by as much: the same
-- number, and always with a leading digit
abbrev pub Raised : ℕ → ℕ → Type 0
Raised b x = fourfold b ≡ (0x80_0000 + x % 0x80_0000) * 2 ^ (x / 0x80_0000 + 25)
