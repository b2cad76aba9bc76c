-- Numbers and floats in bytes, the lowest byte first.
use Rattle.std.specs.Prelude.{ℕ, zero, suc, ◌+◌, ◌*◌, ◌/◌, ◌%◌, List, [], ◌∷◌, ◌++◌, get_or, Float}
use Rattle.std.specs.Float.{binary32}
use Rattle.std.specs.Float.Ieee.{of_bits}

-- ---- as they are read

-- the number of two bytes
abbrev pub two_bytes : List ℕ → ℕ → ℕ
two_bytes bytes at = get_or bytes at 0 + 256 * get_or bytes (at + 1) 0

-- the number of four bytes
unfoldable pub four_bytes : List ℕ → ℕ → ℕ
four_bytes bytes at = two_bytes bytes at + 65536 * two_bytes bytes (at + 2)

-- the f32 of four bytes; every NaN pattern is the one NaN
abbrev pub float_at : List ℕ → ℕ → Float
float_at bytes at = of_bits binary32 (four_bytes bytes at)

-- n numbers of four bytes each, the first at an offset
unfoldable pub numbers_from : List ℕ → ℕ → ℕ → List ℕ
unfolding four_bytes
numbers_from bytes at zero = []
numbers_from bytes at (suc n) = four_bytes bytes at ∷ numbers_from bytes (at + 4) n

-- ---- as they are written

-- a number as two bytes
abbrev pub as_two : ℕ → List ℕ
as_two n = n % 256 ∷ n / 256 ∷ []

-- a number as four bytes
abbrev pub as_four : ℕ → List ℕ
as_four n = as_two (n % 65536) ++ as_two (n / 65536)

-- numbers as four bytes each
unfoldable pub as_fours : List ℕ → List ℕ
as_fours [] = []
as_fours (n ∷ ns) = as_four n ++ as_fours ns
