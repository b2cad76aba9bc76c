-- The number of faces to reach: `(1.0 - ratio) * F` in f32, cut to a whole number (document 01, "Target").
use Rattle.std.specs.Prelude.{ℕ, false, pos, Float}
use Rattle.std.specs.Float.{fin, binary32}
use Rattle.std.specs.Float.Ieee.{sub, mul, of_int, to_unsigned}

-- 0.0 and 1.0
abbrev pub zero_float : Float
zero_float = fin false 0 (pos 0)

abbrev pub one_float : Float
one_float = fin false 1 (pos 0)

-- a float cut to a whole number, as Rust's `as u64` does: toward zero, at the nearest end where it is out of range, 0 for a NaN
unfoldable pub cut : Float → ℕ
unfolding to_unsigned
cut x = to_unsigned 64 x

-- the target of a ratio and a number of faces
unfoldable pub target : Float → ℕ → ℕ
unfolding cut sub mul of_int
target ratio faces = cut (mul binary32 (sub binary32 one_float ratio) (of_int binary32 (pos faces)))
