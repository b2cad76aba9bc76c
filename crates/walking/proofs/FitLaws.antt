-- Numbers within document 01's limits fit 32 bits.
-- Assumes nothing.
use Prim.Native.Nat.{ℕ, ◌≤◌}
use native.Mathlib.Omega.{arith}
use mir.Syntax.{w32}
use mir.Val.{Fits}

-- a number within document 01's limits fits u32
pub few-fits : {n : ℕ} → n ≤ 131072 → Fits w32 n
few-fits few = record { fits = omega arith }

pub points_fit : {n : ℕ} → n ≤ 65536 → Fits w32 n
points_fit few = record { fits = omega arith }

pub below-fits : {n most : ℕ} → n ≤ most → most ≤ 131072 → Fits w32 n
below-fits below few = record { fits = omega arith }
