-- A loop that writes g of each of n numbers into the cells of a list.
-- Assumes nothing.
use Prim.Native.Nat.{ℕ, ◌+◌, ◌*◌, ◌≤◌, ◌<◌}
use native.Mathlib.Numerals.{add-one}
use native.Mathlib.Omega.{arith}
use mathlib.Core.Path.{◌≡◌, refl, sym, ap, ◌∙◌}
use mathlib.Core.List.{List, ◌++◌, map}
use lib.ListN.{length, get_or, take, drop, set, length-set, length-map, get_or-map}
use lib.Seq.{take-suc, take_all, length-take-le}
use Rattle.std.proofs.lemmas.List.{take_more_set}
use Rattle.records.specs.Words.{four_bytes, numbers_from}
use Rattle.records.proofs.WordLaws.{numbers-count, number_at}
use Rattle.lists.specs.Lists.{overlaid}

-- the first i are written
pub record Reading {A : Type 0} (g : ℕ → A) (bytes : List ℕ) (at n : ℕ) (cells : List A) (i : ℕ) : Type 0 where
  pub long : length cells ≡ n
  pub so_far : take i cells ≡ take i (map g (numbers_from bytes at n))

module _ {A : Type 0} (g : ℕ → A) (bytes : List ℕ) (at n : ℕ) where
  abbrev all : List A
  all = map g (numbers_from bytes at n)

  all-count : length all ≡ n
  all-count = length-map (numbers_from bytes at n) g ∙ numbers-count bytes at n

  pub start : (old : List A) → n ≤ length old → Reading g bytes at n (take n old) 0
  start old room = record { long = length-take-le n old room; so_far = refl }

  -- one more is written
  pub turn : (cells : List A) (i : ℕ) (a : A) → Reading g bytes at n cells i → i < n → a ≡ g (four_bytes bytes (at + 4 * i)) →
      Reading g bytes at n (set cells i a) (i + 1)
  turn cells i a r here is =
      let number : a ≡ get_or all i (g 0) = is ∙ sym (get_or-map g (numbers_from bytes at n) i 0 ∙ ap g (number_at bytes at n i here)) in
      record {
        long = length-set cells i a ∙ r.long;
        so_far =
            take_more_set cells i a (omega (arith, r.long))
            ∙ rw (r.so_far, number, add-one i) (sym (take-suc all i (g 0) (omega (arith, all-count))));
      }

  -- all are written
  pub done : (cells old : List A) (i : ℕ) → Reading g bytes at n cells i → n ≤ i → cells ++ drop n old ≡ overlaid all old
  done cells old i r least =
      let same : cells ≡ all = sym (take_all i cells (omega (arith, r.long))) ∙ r.so_far ∙ take_all i all (omega (arith, all-count)) in
      rw (same, all-count) refl
