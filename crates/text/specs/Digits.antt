-- Numbers as text, in ASCII.
use Rattle.std.specs.Prelude.{ℕ, zero, suc, ◌+◌, ◌-◌, ◌/◌, ◌%◌, ◌≤◌, ◌≡◌, refl, List, [], ◌∷◌, ◌++◌, cond, ltb}
use Rattle.std.proofs.Common.{arith}

-- the code of a digit below 16: 0 to 9, then a to f
abbrev pub glyph : ℕ → ℕ
glyph d = cond (ltb d 10) (48 + d) (87 + d)

-- the last k digits of n in a base, the first digit first
unfoldable pub digits : ℕ → ℕ → ℕ → List ℕ
digits base zero n = []
digits base (suc k) n = digits base k (n / base) ++ (glyph (n % base) ∷ [])

-- how many decimal digits n has, or k + 1 where it has more
unfoldable pub digit_count : ℕ → ℕ → ℕ
digit_count zero n = 1
digit_count (suc k) n = cond (ltb n 10) 1 (digit_count k (n / 10) + 1)

-- a u32 in decimal without leading zeros: it has at most ten digits
unfoldable pub decimal : ℕ → List ℕ
decimal n = digits 10 (digit_count 9 n) n

-- a u64 likewise: at most twenty
unfoldable pub long_decimal : ℕ → List ℕ
long_decimal n = digits 10 (digit_count 19 n) n

-- a u32 in hexadecimal, eight digits
abbrev pub hexadecimal : ℕ → List ℕ
hexadecimal n = digits 16 8 n

-- both are written of as many digits as they have
pub decimal_digits : (x n : ℕ) → n ≡ x → (1 ≤ 10) × (decimal x ≡ digits 10 (digit_count (10 - 1) n) n)
unfolding decimal
decimal_digits x n same = (omega arith, rw same refl)

pub long_digits : (x n : ℕ) → n ≡ x → (1 ≤ 20) × (long_decimal x ≡ digits 10 (digit_count (20 - 1) n) n)
unfolding long_decimal
long_digits x n same = (omega arith, rw same refl)
