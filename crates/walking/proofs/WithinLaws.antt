-- What is past the stages' own cells stays as it came.
-- Assumes nothing.
use Prim.Native.Nat.{ℕ}
use native.Mathlib.Omega.{arith}
use mathlib.Core.List.{List}
use lib.Ieee.{Float}
use Rattle.plainwalk.specs.Steps.{Within}
use Rattle.walking.specs.Clauses.{Working}

-- the room stays
pub working-within : {v f : ℕ} {w w₁ : List ℕ} {p q p₁ q₁ : List Float} →
    Working v f w p q → Within v f w p q w₁ p₁ q₁ → Working v f w₁ p₁ q₁
working-within {v} {f} {w} {w₁} room within =
    let but = within.but in
    record { u32s = record { points_few = omega arith; faces_few = omega arith; long = omega arith }; f32s = omega arith; f64s = omega arith }
