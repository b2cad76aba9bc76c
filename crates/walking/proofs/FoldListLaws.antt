-- The folds that a walk has written down, as the numbers of a list.
-- Assumes nothing.
use Prim.Native.Nat.{ℕ, zero, suc, ◌+◌, ◌*◌, ◌≤◌, ◌<◌, min}
use native.Mathlib.Omega.{arith}
use native.Mathlib.Numerals.{add-one}
use mathlib.Core.Path.{◌≡◌, refl, sym, ap, ◌∙◌}
use mathlib.Core.List.{List, [], ◌∷◌, ◌++◌, map, map-append, append_assoc}
use lib.ListN.{length, get_or, set, take, length-take}
use lib.Seq.{get_or-take}
use Rattle.walk.specs.declared.Pair.{Pair}
use Rattle.lists.specs.Lists.{below}
use Rattle.walk.specs.Pairs.{pair_of}
use Rattle.walk.proofs.SamePairs.{pair_path}
use Rattle.lists.proofs.BelowLaws.{map-same-below, length-each, get_d-each}
use Rattle.lists.proofs.OverlayLaws.{copied, copy_more, copy-all}
use Rattle.memory.specs.Entries.{folds_in}
use Rattle.meaning.specs.Outcome.{pair_numbers}
use Rattle.meaning.specs.Call.{listed}
use Rattle.memory.specs.Layout.{folds_from}

-- the numbers of two lists of pairs, one after the other
numbers-append : (xs ys : List Pair) → pair_numbers (xs ++ ys) ≡ pair_numbers xs ++ pair_numbers ys
unfolding pair_numbers
numbers-append [] ys = refl
numbers-append (x ∷ xs) ys = ap (λ (l : List ℕ). pair_numbers (x ∷ []) ++ l) (numbers-append xs ys)

-- the numbers of pairs whose keep and remove follow each other in a row
numbers-each : (g : ℕ → ℕ) (n : ℕ) → pair_numbers (map (λ i. pair_of (g (2 * i)) (g (2 * i + 1))) (below n)) ≡ map g (below (2 * n))
unfolding pair_numbers below
numbers-each g zero = refl
numbers-each g (suc n) =
    let h : ℕ → Pair = λ i. pair_of (g (2 * i)) (g (2 * i + 1)) in
    let twice : 2 * suc n ≡ suc (suc (2 * n)) = omega arith in
    let two-more : map g (below (suc (suc (2 * n)))) ≡ map g (below (2 * n)) ++ (g (2 * n) ∷ g (2 * n + 1) ∷ []) =
    map-append g (below (2 * n) ++ (2 * n ∷ [])) (suc (2 * n) ∷ [])
    ∙ rw (map-append g (below (2 * n)) (2 * n ∷ []), add-one (2 * n)) (append_assoc (map g (below (2 * n))) (g (2 * n) ∷ []) (g (suc (2 * n)) ∷ [])) in
    ap pair_numbers (map-append h (below n) (n ∷ []))
    ∙ numbers-append (map h (below n)) (h n ∷ [])
    ∙ ap (λ (l : List ℕ). l ++ (g (2 * n) ∷ g (2 * n + 1) ∷ [])) (numbers-each g n)
    ∙ rw twice (sym two-more)

-- the folds written down are the cells from folds_from on, in a row
fold-cells : (v f : ℕ) (w : List ℕ) (made : ℕ) → pair_numbers (folds_in v f w made) ≡ map (λ k. get_or w (folds_from v f + k) 0) (below (2 * made))
unfolding folds_in
fold-cells v f w made =
    ap pair_numbers (map-same-below _ _ made (λ i l. pair_path refl (ap (λ (k : ℕ). get_or w k 0) (omega arith))))
    ∙ numbers-each (λ k. get_or w (folds_from v f + k) 0) made

-- those of them that a list has room for
module _ (v f : ℕ) (w : List ℕ) (made : ℕ) (folds : List ℕ) where
  abbrev pub row : List ℕ
  row = take (length folds) (pair_numbers (folds_in v f w made))

  row-length : length row ≡ min (2 * made) (length folds)
  row-length =
      let all : length (pair_numbers (folds_in v f w made)) ≡ 2 * made = ap length (fold-cells v f w made) ∙ length-each _ (2 * made) in
      omega (arith, length-take (length folds) (pair_numbers (folds_in v f w made)))

  row_at : (i : ℕ) → i < min (2 * made) (length folds) → get_or row i 0 ≡ get_or w (folds_from v f + i) 0
  row_at i l =
      get_or-take (length folds) (pair_numbers (folds_in v f w made)) i 0 (omega arith)
      ∙ ap (λ (l : List ℕ). get_or l i 0) (fold-cells v f w made)
      ∙ get_d-each _ (2 * made) i 0 (omega arith)

  -- one number more is copied, and in the end all
  pub row_more : (i : ℕ) (now : List ℕ) → i < min (2 * made) (length folds) → now ≡ copied i row folds →
      set now i (get_or w (folds_from v f + i) 0) ≡ copied (i + 1) row folds
  row_more i now l e =
      ap (set now i) (sym (row_at i l))
      ∙ copy_more i row folds now 0 (omega (arith, row-length)) (omega (arith, row-length)) e

  pub row-all : (i : ℕ) (now : List ℕ) → i ≤ min (2 * made) (length folds) → min (2 * made) (length folds) ≤ i → now ≡ copied i row folds →
      now ≡ listed (folds_in v f w made) folds
  row-all i now most least e = copy-all i row folds now (omega (arith, row-length)) (omega (arith, row-length)) e
