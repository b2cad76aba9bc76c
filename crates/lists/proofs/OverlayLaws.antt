-- A list written over the beginning of another, one element after another.
-- Assumes nothing.
use Prim.Native.Nat.{ℕ, suc, ◌+◌, ◌≤◌, ◌<◌}
use native.Mathlib.Nat.{le_antisymm}
use native.Mathlib.Numerals.{add-one}
use native.Mathlib.Omega.{arith}
use mathlib.Core.Path.{◌≡◌, refl, sym, ap, ◌∙◌}
use mathlib.Core.List.{List, [], ◌∷◌, ◌++◌, append_assoc}
use lib.ListN.{length, get_or, take, drop, set, replicate, length-append, length-replicate}
use lib.Seq.{drop-cons, set_at, take-suc, length-take-le, take-length, length_front}
use Rattle.lists.specs.Lists.{overlaid}

module _ {A : Type 0} where
  -- one element more
  pub over-more : (xs old : List A) (a : A) (n : ℕ) → length xs ≡ n → n < length old → set (overlaid xs old) n a ≡ overlaid (xs ++ (a ∷ [])) old
  over-more xs old a n here fits =
      rw here
      (rw (drop-cons old n a fits)
      (set_at xs (get_or old n a) (drop (suc n) old) a n here
      ∙ sym (append_assoc xs (a ∷ []) (drop (suc n) old))
      ∙ ap (λ (k : ℕ). (xs ++ (a ∷ [])) ++ drop k old) one_more))
    where
      one_more : suc n ≡ length (xs ++ (a ∷ []))
      one_more = omega (arith, length-append xs (a ∷ []))

  -- three elements more
  pub over-three : (xs old : List A) (a b c : A) (n : ℕ) → length xs ≡ n → n + 2 < length old →
      set (set (set (overlaid xs old) n a) (n + 1) b) (n + 2) c ≡ overlaid (xs ++ (a ∷ b ∷ c ∷ [])) old
  over-three xs old a b c n here fits =
      ap (λ (l : List A). set (set l (n + 1) b) (n + 2) c) (over-more xs old a n here (omega arith))
      ∙ ap (λ (l : List A). set l (n + 2) c) (over-more (xs ++ (a ∷ [])) old b (n + 1) (length-append xs (a ∷ []) ∙ omega arith) (omega arith))
      ∙ over-more ((xs ++ (a ∷ [])) ++ (b ∷ [])) old c (n + 2) (length-append (xs ++ (a ∷ [])) (b ∷ []) ∙ omega (arith, length-append xs (a ∷ []))) fits
      ∙ ap (λ (l : List A). overlaid l old) (append_assoc (xs ++ (a ∷ [])) (b ∷ []) (c ∷ []) ∙ append_assoc xs (a ∷ []) (b ∷ c ∷ []))

  -- it is as long as before
  pub length_over : (xs old : List A) → length xs ≤ length old → length (overlaid xs old) ≡ length old
  length_over xs old fits = length_front old xs (length xs) (sym (length-take-le (length xs) old fits))

  -- the first n are set
  abbrev pub cleared : A → ℕ → List A → List A
  cleared a n old = replicate n a ++ drop n old

  -- it is as long as before
  pub length-cleared : (a : A) (n : ℕ) (old : List A) → n ≤ length old → length (cleared a n old) ≡ length old
  length-cleared a n old fits = length_front old (replicate n a) n (length-replicate n a ∙ sym (length-take-le n old fits))

  -- ---- a loop that copies a list

  -- the first n are copied
  abbrev pub copied : ℕ → List A → List A → List A
  copied n xs old = take n xs ++ drop n old

  -- one element more is copied
  pub copy_more : (n : ℕ) (xs old w : List A) (d : A) → n < length xs → length xs ≤ length old → w ≡ copied n xs old →
      set w n (get_or xs n d) ≡ copied (n + 1) xs old
  copy_more n xs old w d here fits e =
      ap (λ (l : List A). set l n (get_or xs n d)) (e ∙ over-take n (omega arith))
      ∙ over-more (take n xs) old (get_or xs n d) n (length-take-le n xs (omega arith)) (omega arith)
      ∙ ap (λ (l : List A). overlaid l old) (sym (take-suc xs n d here) ∙ ap (λ (k : ℕ). take k xs) (sym (add-one n)))
      ∙ sym (over-take (n + 1) (omega arith))
    where
      over-take : (k : ℕ) → k ≤ length xs → copied k xs old ≡ overlaid (take k xs) old
      over-take k l = ap (λ (j : ℕ). take k xs ++ drop j old) (sym (length-take-le k xs l))

  -- all are copied
  pub copy-all : (n : ℕ) (xs old w : List A) → n ≤ length xs → length xs ≤ n → w ≡ copied n xs old → w ≡ overlaid xs old
  copy-all n xs old w most least e = e ∙ rw (le_antisymm most least) (rw take-length refl)
