-- Lines of text.
use Rattle.std.specs.Prelude.{ℕ, zero, suc, List, [], ◌∷◌, ◌++◌}
use Rattle.text.specs.Digits.{decimal, long_decimal}

-- a number, of a u32 and of a u64, and the byte after it
abbrev pub number_then : ℕ → ℕ → List ℕ
number_then n end = decimal n ++ (end ∷ [])

abbrev pub long_then : ℕ → ℕ → List ℕ
long_then n end = long_decimal n ++ (end ∷ [])

-- a word and a number, to the end of the line
abbrev pub word_line : List ℕ → ℕ → List ℕ
word_line word n = word ++ number_then n 10

-- the first n lines of a kind, one after the other
unfoldable pub lines_to : (ℕ → List ℕ) → ℕ → List ℕ
lines_to line zero = []
lines_to line (suc n) = lines_to line n ++ line n
