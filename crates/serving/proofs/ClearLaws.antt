-- Cells that are cleared once more: the longer stretch counts.
-- Assumes nothing.
use Prim.Native.Nat.{ℕ, ◌+◌, ◌-◌, ◌≤◌, max}
use mathlib.Core.Path.{◌≡◌, sym, ap, ◌∙◌}
use mathlib.Core.Bool.{Bool, true, false, cond}
use mathlib.Core.List.{List, ◌++◌, append_assoc}
use native.Mathlib.Omega.{arith}
use native.Mathlib.Nat.{max-eq_left, max-eq_right}
use lib.Dec.{leb}
use lib.ListN.{drop, replicate, length-replicate, replicate-append-replicate}
use lib.Seq.{drop_at, drop-drop}
use borrow.Author.Tests.{leb-true, leb-false}
use Rattle.lists.proofs.TestLaws.{by-test}
use Rattle.meaning.specs.Call.{left_as}

module _ {A : Type 0} (zero : A) where
  -- a shorter stretch, and a longer one
  shorter : (m r : ℕ) (rest : List A) → replicate m zero ++ drop m (replicate (m + r) zero ++ rest) ≡ replicate (m + r) zero ++ rest
  shorter m r rest =
      let both = ap (λ (l : List A). l ++ rest) (sym (replicate-append-replicate m r zero)) ∙ append_assoc (replicate m zero) (replicate r zero) rest in
      ap (λ (l : List A). replicate m zero ++ drop m l) both
      ∙ ap (λ (l : List A). replicate m zero ++ l) (drop_at (replicate m zero) (replicate r zero ++ rest) m (length-replicate m zero))
      ∙ sym both

  longer : (n r : ℕ) (cells : List A) → drop (n + r) (replicate n zero ++ drop n cells) ≡ drop (n + r) cells
  longer n r cells =
      sym (drop-drop r n (replicate n zero ++ drop n cells))
      ∙ ap (drop r) (drop_at (replicate n zero) (drop n cells) n (length-replicate n zero))
      ∙ drop-drop r n cells

  cleared-again : (n m : ℕ) (cells : List A) → left_as true m zero (left_as true n zero cells) ≡ left_as true (max n m) zero cells
  cleared-again n m cells =
      by-test (leb n m)
      (λ (more : leb n m ≡ true). let up = leb-true n m more in
      ap (λ (l : List A). replicate m zero ++ l) (rw (split n m up) at (longer n (m - n) cells)) ∙ ap (λ (k : ℕ). left_as true k zero cells) (sym (max-eq_right up)))
      (λ (less : leb n m ≡ false). let down : m ≤ n = omega (arith, leb-false n m less) in
      (rw (split m n down) at (shorter m (n - m) (drop n cells))) ∙ ap (λ (k : ℕ). left_as true k zero cells) (sym (max-eq_left down)))
    where
      split : (a b : ℕ) → a ≤ b → a + (b - a) ≡ b
      split a b fits = omega (arith, fits)

  -- where the memory wasn't worked in nothing is cleared
  pub left-again : (worked : Bool) (n m : ℕ) (cells : List A) → left_as worked m zero (left_as true n zero cells) ≡ left_as true (max n (cond worked m 0)) zero cells
  left-again true n m cells = cleared-again n m cells
  left-again false n m cells = let none : max n 0 ≡ n = omega arith in ap (λ (k : ℕ). left_as true k zero cells) (sym none)
