-- Four answers in words. The proof computes them from the definitions.
use Rattle.std.specs.Prelude.{◌≡◌, refl, [], ◌∷◌}
use Rattle.text.specs.Words.{ascii}
use Rattle.text.specs.Digits.{digits, digit_count, decimal}
use Rattle.wording.specs.Meanings.{meanings, row_of, placed, words_line}

-- with a byte's place, with a count of fixed points, without a place, and of an unknown number
pub said : (words_line 21 84 ∷ words_line 10 4 ∷ words_line 11 0 ∷ words_line 99 5 ∷ []) ≡
    (ascii "answer 21: a record is cut short or missing (byte 84)\n"
    ∷ ascii "answer 10: nothing could be joined, and points are held (fixed points: 4)\n"
    ∷ ascii "answer 11: nothing could be joined\n"
    ∷ ascii "answer 99: refused\n"
    ∷ [])
unfolding words_line meanings row_of placed decimal digit_count digits
said = refl
