-- The table's rows, and a place after its word.
-- Assumes nothing.
use Prim.Native.Nat.{ℕ, ◌+◌, ◌≤◌}
use native.Mathlib.Omega.{arith}
use mathlib.Core.Path.{◌≡◌, refl}
use mathlib.Core.Bool.{true, false}
use Rattle.std.specs.Bool.{◌==◌}
use mathlib.Core.List.{List, [], ◌∷◌}
use borrow.Author.Tests.{ne_eqb, eqb-true}
use Rattle.lists.specs.Puts.{Put}
use Rattle.lists.proofs.PutLaws.{none, wider, both}
use Rattle.text.specs.Words.{ascii}
use Rattle.text.specs.Lines.{number_then}
use Rattle.wording.specs.Meanings.{Row, meanings, row_of, placed}
use Rattle.wording.specs.declared.Words.{Words}
use Rattle.wording.specs.Means.{Means}
use lib.ListN.{length}

-- ---- the table

-- with what is known, that a number is none of a table's
abbrev pub NoneOf : ℕ → Type 0 → List Row → Type 0
NoneOf number known [] = known
NoneOf number known (row ∷ rows) = NoneOf number (known × (number ≡ row.0 → ⊥)) rows

-- what is known
still-known : (number : ℕ) (known : Type 0) (rows : List Row) → NoneOf number known rows → known
still-known number known [] none = none
still-known number known (row ∷ rows) none = (still-known number (known × (number ≡ row.0 → ⊥)) rows none).0

-- a number that is none of them has no row there
pub no_row : (number : ℕ) (known : Type 0) (rows : List Row) → NoneOf number known rows → row_of number rows ≡ (number, "refused", "")
unfolding row_of
no_row number known [] none = refl
no_row number known (row ∷ rows) none =
    let before = known × (number ≡ row.0 → ⊥) in
    rw (ne_eqb number row.0 (still-known number before rows none).1) (no_row number before rows none)

-- a number that is known has the known one's
pub known-row : {number known : ℕ} → number ≡ known → row_of number meanings ≡ row_of known meanings
known-row same = rw same

-- words that are a row's
pub by_row : {number : ℕ} {row : Row} {r : Words} → row_of number meanings ≡ row → r.0.now ≡ ascii row.1 → r.1.now ≡ ascii row.2 →
    length (ascii row.1) + length (ascii row.2) ≤ 70 → Means number r
by_row found words place short = record { words = rw found words; place = rw found place; short = rw found short }

-- ---- a place after its word

-- no word, and so no place
pub no_place : (word old : List ℕ) (at place : ℕ) → (length word == 0) ≡ true → Put (length word + 11) (placed word place) at old old at
unfolding placed
no_place [] old at place empty = wider (omega arith) (none old at)
no_place (b ∷ rest) old at place empty =
    let same : length (b ∷ rest) ≡ 0 = eqb-true _ _ empty in
    absurd (omega arith)

-- a word, and the place after it
pub place-put : {at p r : ℕ} (word : List ℕ) {old mid new : List ℕ} (place : ℕ) → (length word == 0) ≡ false → Put (length word) word at old mid p →
    Put 11 (number_then place 41) p mid new r → Put (length word + 11) (placed word place) at old new r
unfolding placed
place-put [] place empty done number = cc
place-put (b ∷ rest) place empty done number = both done number
