-- What the words of a number are.
use Rattle.std.specs.Prelude.{ℕ, ◌+◌, ◌≤◌, ◌≡◌, length}
use Rattle.wording.specs.declared.Words.{Words}
use Rattle.wording.specs.Meanings.{meaning_of, place_word_of}

-- a number's words, and the word for what its place counts; both together are short
pub record Means (number : ℕ) (r : Words) : Type 0 where
  pub words : r.0.now ≡ meaning_of number
  pub place : r.1.now ≡ place_word_of number
  pub short : length (meaning_of number) + length (place_word_of number) ≤ 70
