-- f64 to f32: nearest, ties to even, subnormals, overflow to infinity (document 01, "f64 to f32"). The rounding is the kit's own.
use Rattle.std.specs.Prelude.{ℕ, ◌*◌, Float}
use Rattle.std.specs.Float.{nan, inf, fin, binary32, binary64}
use Rattle.std.specs.Float.Ieee.{of_bits, to_bits, round, up, down}

-- the f32 nearest to x
unfoldable pub narrowed : Float → Float
unfolding round
narrowed nan = nan
narrowed (inf s) = inf s
narrowed (fin s m e) = round binary32 s (m * up e) (down e)

-- The same on patterns. Any NaN gives 7fc00000, which is what `to_bits` writes for it.
unfoldable pub narrow_bits : ℕ → ℕ
unfolding narrowed of_bits to_bits
narrow_bits b = to_bits binary32 (narrowed (of_bits binary64 b))
