-- No text is longer than the room that is asked for it.
-- Assumes nothing.
use Prim.Native.Nat.{ℕ, zero, suc, ◌+◌, ◌*◌, ◌≤◌}
use native.Mathlib.Omega.{arith}
use mathlib.Core.List.{List, [], ◌∷◌, ◌++◌}
use lib.ListN.{length, length-append}
use Rattle.text.specs.Digits.{decimal, long_decimal, hexadecimal, digit_count}
use Rattle.text.specs.Lines.{number_then, long_then, word_line, lines_to}
use Rattle.text.proofs.DigitLaws.{digits-length, digit-count-most}

-- a text of at most so many bytes
pub record NoLonger (most : ℕ) (text : List ℕ) : Type 0 where
  pub bytes : length text ≤ most

-- a text of two parts
pub two-within : {m n : ℕ} {s t : List ℕ} → NoLonger m s → NoLonger n t → NoLonger (m + n) (s ++ t)
two-within {s = s} {t = t} one next = record { bytes = omega (arith, length-append s t) }

pub word-within : (word : List ℕ) → NoLonger (length word) word
word-within word = record { bytes = omega arith }

pub decimal-within : (n : ℕ) → NoLonger 10 (decimal n)
unfolding decimal
decimal-within n = record { bytes = omega (arith, digits-length 10 (digit_count 9 n) n, digit-count-most 9 n) }

pub long-within : (n : ℕ) → NoLonger 20 (long_decimal n)
unfolding long_decimal
long-within n = record { bytes = omega (arith, digits-length 10 (digit_count 19 n) n, digit-count-most 19 n) }

pub hexadecimal-within : (n : ℕ) → NoLonger 8 (hexadecimal n)
hexadecimal-within n = record { bytes = omega (arith, digits-length 16 8 n) }

pub number-within : (n end : ℕ) → NoLonger 11 (number_then n end)
number-within n end = two-within (decimal-within n) (word-within (end ∷ []))

pub long-number-within : (n end : ℕ) → NoLonger 21 (long_then n end)
long-number-within n end = two-within (long-within n) (word-within (end ∷ []))

pub line-within : (word : List ℕ) (n : ℕ) → NoLonger (length word + 11) (word_line word n)
line-within word n = two-within (word-within word) (number-within n 10)

pub lines-within : {line : ℕ → List ℕ} {most : ℕ} → ((k : ℕ) → NoLonger most (line k)) → (n : ℕ) → NoLonger (most * n) (lines_to line n)
unfolding lines_to
lines-within each zero = record { bytes = omega arith }
lines-within {line} {most} each (suc n) =
    let all : NoLonger (most * n + most) (lines_to line n ++ line n) = two-within (lines-within each n) (each n) in
    record { bytes = omega (arith, all.bytes) }
