-- The bounds on what the root's guess computes, for any x of eleven digits.
use Rattle.std.proofs.Common.{ℕ, ◌+◌, ◌*◌, ◌/◌, ◌<◌, ◌≤◌, mul-le-mul_right, div-lt_iff_lt-mul, mul-le-mul, arith}

pub record Small (x m : ℕ) : Type 0 where
  pub number : x ≤ 2047
  pub square : 8 * x * x ≤ 8 * 2047 * 2047
  pub product : x * (8 * x * x + 3 * m) ≤ 2047 * (8 * x * x + 3 * m)

pub small : (x m : ℕ) → x ≤ 2047 → Small x m
small x m h =
    let eight : 8 * x ≤ 8 * 2047 = omega arith in
    record { number = h; square = mul-le-mul eight h; product = mul-le-mul_right (8 * x * x + 3 * m) h }

-- the quotient is below 2^26
pub guess_small : (p s m : ℕ) → 0 < m → p ≤ 2047 * (s + 3 * m) → (p * 0x2000 + (3 * s + m) / 2) / (3 * s + m) < 0x400_0000
guess_small p s m some h =
    let positive : 0 < 3 * s + m = omega arith in
    (div-lt_iff_lt-mul positive).1 (omega arith)
