-- The order of costs: IEEE 754-2019 totalOrder (section 5.10) on f64 patterns, and the signed key that stands for it.
use Rattle.std.specs.Prelude.{ℕ, ◌-◌, ◌%◌, ◌^◌, Bool, cond, not, ◌&&◌, ◌||◌, ℤ, pos, negsuc, nat_le, nat_lt, Float}
use Rattle.std.specs.Float.{binary64}
use Rattle.std.specs.Float.Ieee.{of_bits, to_bits, lt, nan_bits}

-- ---- the parts of a pattern

abbrev pub negative : ℕ → Bool
negative b = nat_le (2 ^ 63) b

-- the highest digit says quiet; the digits below it are the payload
abbrev pub quiet : ℕ → Bool
quiet b = nat_le (2 ^ 51) (b % 2 ^ 52)

abbrev pub payload : ℕ → ℕ
payload b = b % 2 ^ 51

-- ---- totalOrder

-- 5.10 d 3, for two NaNs of one sign, the positive one: signaling below quiet, then by payload
unfoldable pub nan_order : ℕ → ℕ → Bool
nan_order x y = cond (quiet x) (quiet y && nat_le (payload x) (payload y)) (quiet y || nat_le (payload x) (payload y))

-- 5.10 d: where one of them, or both, is a NaN
unfoldable pub unordered : ℕ → ℕ → Bool
unfolding nan_order nan_bits
unordered x y =
    cond (nan_bits binary64 x)
    (cond (nan_bits binary64 y)
    -- 3: by sign, then as nan_order says, the other way round below zero
    (cond (negative x) (not (negative y) || nan_order y x) (not (negative y) && nan_order x y))
    -- 1: a negative NaN is below every number
    (negative x))
    -- 2: a positive NaN is above every number
    (not (negative y))

-- 5.10 a to c: x < y, or x = y with the sign of zero deciding; else not
unfoldable pub ordered : ℕ → ℕ → Bool
unfolding of_bits lt
ordered x y =
    lt (of_bits binary64 x) (of_bits binary64 y)
    || (not (lt (of_bits binary64 y) (of_bits binary64 x)) && (negative x || not (negative y)))

-- totalOrder(x, y): x comes at or before y
unfoldable pub total_order : ℕ → ℕ → Bool
unfolding unordered ordered nan_bits
total_order x y = cond (nan_bits binary64 x || nan_bits binary64 y) (unordered x y) (ordered x y)

-- ---- the key

-- Patterns without the sign bit rise with their number; with it they fall.
unfoldable pub order_key : ℕ → ℤ
order_key b = cond (nat_lt b (2 ^ 63)) (pos b) (negsuc (b - 2 ^ 63))

-- A float's key. A NaN has the place of the pattern that `to_bits` writes, 7ff8000000000000, above +infinity.
unfoldable pub float_key : Float → ℤ
unfolding order_key to_bits
float_key x = order_key (to_bits binary64 x)
