-- What the program hands to std as text is text: the name for a file beside another, and a refusal in plain words. Assumes nothing.
use Rattle.std.proofs.Common.{ℕ, zero, suc, ◌+◌, ◌/◌, ◌%◌, ◌≡◌, ◌<◌, ◌≤◌, Bool, true, false, cond, eqb, ltb, List, [], ◌∷◌, ◌++◌, length, take, drop, Result, Ok, Err, refl, arith}
use Rattle.std.specs.Prelude.{◌&&◌, IsUtf8, IsAscii, IsOk, MatchResult}
use Rattle.std.proofs.lemmas.Str.{IsUtf8-append, IsUtf8-from_ascii, IsAscii-append}
use Rattle.std.proofs.lemmas.Str.Ascii.{IsAscii-nil, IsAscii-cons}
use Rattle.std.proofs.Math.Seq.{take-append_seam}
use borrow.Author.Tests.{ltb-true, lt-ltb}
use Rattle.lists.specs.Puts.{Put}
use Rattle.lists.proofs.PutLaws.{whole}
use Rattle.text.specs.Words.{ascii}
use Rattle.text.specs.Digits.{glyph, digits, digit_count, decimal}
use Rattle.wording.specs.Meanings.{Row, meanings, row_of, meaning_of, place_word_of, placed, where_of, words_line}
use Rattle.thin.specs.Clauses.{name_beside}

-- ---- ASCII

-- whether each byte of a list is below 128
abbrev low : List ℕ → Bool
low [] = true
low (b ∷ rest) = ltb b 128 && low rest

both : (a b : Bool) → (a && b) ≡ true → (a ≡ true) × (b ≡ true)
both true b e = (refl, e)
both false b e = cc

low_ascii : (bytes : List ℕ) → low bytes ≡ true → IsAscii bytes
low_ascii [] all = IsAscii-nil
low_ascii (b ∷ rest) all =
    let each = both (ltb b 128) (low rest) all in
    IsAscii-cons b rest (ltb-true b 128 each.0) (low_ascii rest each.1)

-- a number in decimal
digits_ascii : (k n : ℕ) → IsAscii (digits 10 k n)
unfolding digits
digits_ascii zero n = IsAscii-nil
digits_ascii (suc k) n =
    let small : n % 10 < 10 = omega arith in
    let digit : glyph (n % 10) < 128 = rw (lt-ltb (n % 10) 10 small) (omega arith) in
    IsAscii-append (digits 10 k (n / 10)) (glyph (n % 10) ∷ []) (digits_ascii k (n / 10)) (IsAscii-cons (glyph (n % 10)) [] digit IsAscii-nil)

decimal_ascii : (n : ℕ) → IsAscii (decimal n)
unfolding decimal
decimal_ascii n = digits_ascii (digit_count 9 n) n

-- ---- a refusal in plain words

-- whether the words of a row are, and those of each row
abbrev words_low : Row → Bool
words_low row = low (ascii row.1) && low (ascii row.2)

abbrev rows_low : List Row → Bool
rows_low [] = true
rows_low (row ∷ rows) = words_low row && rows_low rows

row_low : (number : ℕ) (rows : List Row) → rows_low rows ≡ true → words_low (row_of number rows) ≡ true
unfolding row_of
row_low number [] all = refl
row_low number (row ∷ rows) all =
    let each = both (words_low row) (rows_low rows) all in
    elim (eqb number row.0) as (λ here. words_low (cond here row (row_of number rows)) ≡ true) [ true ↦ each.0 | false ↦ row_low number rows each.1 ]

meanings_low : rows_low meanings ≡ true
unfolding meanings
meanings_low = refl

placed_ascii : (word : List ℕ) (place : ℕ) → IsAscii word → IsAscii (placed word place)
unfolding placed
placed_ascii [] place is_ascii = IsAscii-nil
placed_ascii (b ∷ rest) place is_ascii =
    IsAscii-append (b ∷ rest) (decimal place ++ ascii ")") is_ascii (IsAscii-append (decimal place) (ascii ")") (decimal_ascii place) (low_ascii (ascii ")") refl))

words_ascii : (number place : ℕ) → IsAscii (words_line number place)
unfolding words_line
words_ascii number place =
    let each = both (low (meaning_of number)) (low (place_word_of number)) (row_low number meanings meanings_low) in
    let end = IsAscii-append (where_of number place) (ascii "\n") (placed_ascii (place_word_of number) place (low_ascii (place_word_of number) each.1)) (low_ascii (ascii "\n") refl) in
    let words = IsAscii-append (meaning_of number) (where_of number place ++ ascii "\n") (low_ascii (meaning_of number) each.0) end in
    let rest = IsAscii-append (ascii ": ") (meaning_of number ++ (where_of number place ++ ascii "\n")) (low_ascii (ascii ": ") refl) words in
    IsAscii-append (ascii "answer ") _ (low_ascii (ascii "answer ") refl) (IsAscii-append (decimal number) _ (decimal_ascii number) rest)

pub complaint_text : (number place : ℕ) → IsUtf8 (ascii "thin: " ++ words_line number place)
complaint_text number place =
    IsUtf8-from_ascii _ (IsAscii-append (ascii "thin: ") (words_line number place) (low_ascii (ascii "thin: ") refl) (words_ascii number place))

-- ---- the name for a file beside another

-- what is behind the name
abbrev suffix : ℕ → List ℕ
suffix k = ascii ".thin-" ++ ((48 + k / 10) ∷ (48 + k % 10) ∷ [])

suffix_ascii : (k : ℕ) → k < 100 → IsAscii (suffix k)
suffix_ascii k small =
    let two = IsAscii-cons (48 + k / 10) ((48 + k % 10) ∷ []) (omega arith) (IsAscii-cons (48 + k % 10) [] (omega arith) IsAscii-nil) in
    IsAscii-append (ascii ".thin-") ((48 + k / 10) ∷ (48 + k % 10) ∷ []) (low_ascii (ascii ".thin-") refl) two

pub text_beside : (name : List ℕ) (k : ℕ) → IsUtf8 name → k < 100 → IsUtf8 (name_beside name k)
text_beside name k is_text small = IsUtf8-append name (suffix k) is_text (IsUtf8-from_ascii (suffix k) (suffix_ascii k small))

-- ---- in a buffer

-- a text that was stored at the beginning stands there
pub text_stored : {most r : ℕ} {run old new : List ℕ} → Put most run 0 old new r → most ≤ length old → IsUtf8 run → IsUtf8 (take r new)
text_stored {r = r} {run = run} {old = old} done room is_text =
    let here : r ≡ length run = omega (arith, done.past) in
    rw (here, whole done room, take-append_seam run (drop (length run) old)) is_text

-- what has no error is there
pub is_ok : {T E : Type 0} (r : Result T E) (P : T → Type 0) (Q : E → Type 0) → MatchResult r P Q → ((e : E) → Q e → ⊥) → IsOk r
is_ok (Ok x) P Q told never = refl
is_ok (Err e) P Q told never = absurd (never e told)
