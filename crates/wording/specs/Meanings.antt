-- An answer in plain words: its number, what the number means, and the place that comes with it.
use Rattle.std.specs.Prelude.{ℕ, List, [], ◌∷◌, ◌++◌, cond, eqb}
use Prim.Native.String.{String}
use Rattle.text.specs.Words.{ascii}
use Rattle.text.specs.Digits.{decimal}

-- ---- the table

-- a number, what it means, and what its place counts, with the words before it: none where it has no place
abbrev pub Row : Type 0
Row = ℕ × String × String

-- the rows of the numbers that have a meaning
unfoldable pub meanings : List Row
meanings =
    (1, "a list's length is no multiple of 3", "")
    ∷ (2, "more points or faces than the limit", "")
    ∷ (3, "a lent buffer is too short", "")
    ∷ (4, "there are no points or no faces", "")
    ∷ (5, "the ratio is not a number from 0 to 1", "")
    ∷ (6, "the length limit is not a number", "")
    ∷ (7, "a coordinate is not finite or above its unit's bound", " (coordinate ")
    ∷ (8, "a face names a point that is not there", " (face ")
    ∷ (9, "a face names one point twice", " (face ")
    ∷ (10, "nothing could be joined, and points are held", " (fixed points: ")
    ∷ (11, "nothing could be joined", "")
    ∷ (12, "the margin does not ascend or names a missing point", " (entry ")
    ∷ (21, "a record is cut short or missing", " (byte ")
    ∷ (22, "a record of another kind stands here", " (byte ")
    ∷ (23, "a record's length is wrong", " (byte ")
    ∷ (24, "the unit is neither 1 (millimetre) nor 2 (micrometre)", " (byte ")
    ∷ (25, "bytes follow the last record", " (byte ")
    ∷ (26, "a flag is set that has no meaning", " (byte ")
    ∷ (27, "more than 128 points, 256 faces or 128 margin points", " (byte ")
    ∷ (31, "the buffer for the file is too short", "")
    ∷ []

-- the row of a number, or "refused" where the table has none
unfoldable pub row_of : ℕ → List Row → Row
row_of number [] = (number, "refused", "")
row_of number (row ∷ rows) = cond (eqb number row.0) row (row_of number rows)

-- ---- the parts of a line

-- what a number means
abbrev pub meaning_of : ℕ → List ℕ
meaning_of number = ascii (row_of number meanings).1

-- what its place counts
abbrev pub place_word_of : ℕ → List ℕ
place_word_of number = ascii (row_of number meanings).2

-- a place in parentheses, after the word for what it counts, or nothing where there is no word
unfoldable pub placed : List ℕ → ℕ → List ℕ
placed [] place = []
placed (b ∷ rest) place = (b ∷ rest) ++ (decimal place ++ ascii ")")

-- where: the place that comes with a number, or nothing
abbrev pub where_of : ℕ → ℕ → List ℕ
where_of number place = placed (place_word_of number) place

-- ---- the line

-- an answer and its place in words, to the end of the line
unfoldable pub words_line : ℕ → ℕ → List ℕ
words_line number place = ascii "answer " ++ (decimal number ++ (ascii ": " ++ (meaning_of number ++ (where_of number place ++ ascii "\n"))))

-- no line is longer
abbrev pub words_room : ℕ
words_room = 128
