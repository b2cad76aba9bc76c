-- The numbers that the arithmetic names, by their bits.
use Rattle.std.specs.Prelude.{Float}
use Rattle.std.specs.Float.{binary32, binary64}
use Rattle.std.specs.Float.Ieee.{of_bits}

-- 0.5, an f32
abbrev pub half : Float
half = of_bits binary32 0x3f00_0000

-- 0.0 and 1.0, each an f64
abbrev pub nought : Float
nought = of_bits binary64 0

abbrev pub one : Float
one = of_bits binary64 0x3ff0_0000_0000_0000
