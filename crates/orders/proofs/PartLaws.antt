-- Parts of lists: what is read in one and put there, as the code has it; that nothing else changes; and that two lists agree in a part where they agree in
-- each of its cells.
-- Assumes nothing.
use Prim.Native.Nat.{ℕ, ◌+◌, ◌-◌, ◌≤◌, ◌<◌, max}
use mathlib.Core.Path.{◌≡◌, sym, ap, ◌∙◌}
use mathlib.Core.Logic.{◌⊎◌, inl, inr}
use mathlib.Core.Bool.{true, false, ◌&&◌}
use mathlib.Core.List.{List, ◌++◌}
use native.Mathlib.Omega.{arith}
use native.Mathlib.Nat.{add-sub_cancel_left}
use lib.Dec.{ltb}
use lib.ListN.{length, get_or, take, drop, length-drop}
use lib.Seq.{get_or-take, get_or-drop, ext_get_or, take_at, drop_at, length-take-le}
use borrow.Author.Tests.{lt-ltb, ltb-true, ltb-false}
use borrow.Rule.Slice.PartMut.{put_mid, same_len_mid, take_put, drop_put}
use Rattle.lists.proofs.DropLaws.{past-drop}
use Rattle.lists.proofs.TestLaws.{by-test, clash, both_true}
use Rattle.orders.specs.declared.Part.{Part}
use Rattle.orders.specs.Parts.{cells_of, replaced, Within, In}
use Rattle.orders.specs.Refused.{share}

-- a cell before a part or after it
abbrev pub Beside : Part → ℕ → Type 0
Beside p c = (c < p.from) ⊎ (p.from + p.len ≤ c)

-- a cell of two parts is shared, by the test
pub shared : (p q : Part) (c : ℕ) → In p c → In q c → share p q ≡ true
shared p q c one other =
    rw (
      lt-ltb 0 p.len (omega (arith, one.from, one.to)),
      lt-ltb 0 q.len (omega (arith, other.from, other.to)),
      lt-ltb p.from (q.from + q.len) (omega (arith, one.from, other.to)),
      lt-ltb q.from (p.from + p.len) (omega (arith, other.from, one.to)),
    )

-- and where the test says so there is one: the later of the two first cells
pub shared-cell : (p q : Part) → share p q ≡ true → (c : ℕ) × In p c × In q c
shared-cell p q all =
    let p-first = ltb 0 p.len in
    let q-first = ltb 0 q.len in
    let p-in = ltb p.from (q.from + q.len) in
    let q-in = ltb q.from (p.from + p.len) in
    let last = both_true (p-first && q-first && p-in) q-in all in
    let third = both_true (p-first && q-first) p-in last.0 in
    let two = both_true p-first q-first third.0 in
    let p-some = ltb-true 0 p.len two.0 in
    let q-some = ltb-true 0 q.len two.1 in
    let p-before = ltb-true p.from (q.from + q.len) third.1 in
    let q-before = ltb-true q.from (p.from + p.len) last.1 in
    (max p.from q.from, record { from = omega arith; to = omega (arith, p-some, q-before) }, record { from = omega arith; to = omega (arith, q-some, p-before) })

-- so a cell of one lies beside the other, where none is shared
pub apart : (p q : Part) → share p q ≡ false → (c : ℕ) → In q c → Beside p c
apart p q none c inside =
    by-test (ltb c p.from)
    (λ before. inl (ltb-true c p.from before))
    (λ not-before. by-test (ltb c (p.from + p.len))
    (λ (within : ltb c (p.from + p.len) ≡ true).
    clash (shared p q c (record { from = ltb-false c p.from not-before; to = ltb-true c (p.from + p.len) within }) inside) none)
    (λ (after : ltb c (p.from + p.len) ≡ false). inr (ltb-false c (p.from + p.len) after)))

module _ {A : Type 0} (p : Part) (cells : List A) where
  -- what is read there
  pub part-read : take ((p.from + p.len) - p.from) (drop p.from cells) ≡ cells_of p cells
  part-read = ap (λ (n : ℕ). take n (drop p.from cells)) (add-sub_cancel_left p.from p.len)

  -- and what is put there
  pub part-put : (new : List A) → put_mid p.from ((p.from + p.len) - p.from) cells new ≡ replaced p new cells
  part-put new = ap (λ (n : ℕ). take p.from cells ++ (new ++ drop n (drop p.from cells))) (add-sub_cancel_left p.from p.len)

  module _ (within : Within p cells) where
    pub length-cells : length (cells_of p cells) ≡ p.len
    length-cells = length-take-le p.len (drop p.from cells) (omega (arith, within, length-drop p.from cells))

    module _ (new : List A) (as_long : length new ≡ p.len) where
      -- the list stays as long
      pub length-replaced : length (replaced p new cells) ≡ length cells
      length-replaced = same_len_mid p.from p.len cells new (as_long ∙ sym length-cells)

      -- the part holds what was put there
      pub cells-replaced : cells_of p (replaced p new cells) ≡ new
      cells-replaced =
          ap (take p.len) (drop_at (take p.from cells) (new ++ drop p.len (drop p.from cells)) p.from (length-take-le p.from cells (omega (arith, within))))
          ∙ take_at new (drop p.len (drop p.from cells)) p.len as_long

      -- what lies after it is as it was, and so is each other cell
      pub rest-replaced : drop (p.from + p.len) (replaced p new cells) ≡ drop (p.from + p.len) cells
      rest-replaced =
          ap (λ (l : List A). drop (p.from + p.len) l) (sym (part-put new))
          ∙ drop_put p.from (p.from + p.len) cells new (omega arith) within (as_long ∙ sym (add-sub_cancel_left p.from p.len))

      pub beside-replaced : (c : ℕ) (d : A) → Beside p c → get_or (replaced p new cells) c d ≡ get_or cells c d
      beside-replaced c d (inl before) =
          sym (get_or-take p.from (replaced p new cells) c d before)
          ∙ ap (λ (l : List A). get_or l c d) (take_put p.from p.len cells new (omega (arith, within)))
          ∙ get_or-take p.from cells c d before
      beside-replaced c d (inr after) = past-drop d (replaced p new cells) cells (p.from + p.len) rest-replaced c after

-- two lists agree in a part where they agree in each of its cells
pub same-part : {A : Type 0} (d : A) (p : Part) (a b : List A) → Within p a → length a ≡ length b → ((c : ℕ) → In p c → get_or a c d ≡ get_or b c d) → cells_of p a ≡ cells_of p b
same-part {A} d p a b within as_long agree = ext_get_or d (cells_of p a) (cells_of p b) (length-a ∙ sym (length-cells p b (rw (sym as_long) within))) (λ i less. at a i (rw length-a at less) ∙ agree (p.from + i) (record { from = omega arith; to = omega (arith, rw length-a at less) }) ∙ sym (at b i (rw length-a at less)))
  where
    length-a : length (cells_of p a) ≡ p.len
    length-a = length-cells p a within

    at : (cells : List A) (i : ℕ) → i < p.len → get_or (cells_of p cells) i d ≡ get_or cells (p.from + i) d
    at cells i less = get_or-take p.len (drop p.from cells) i d less ∙ get_or-drop p.from cells i d

-- and back: they agree in each cell of a part in which they agree
pub same-cell : {A : Type 0} (d : A) (p : Part) (a b : List A) (c : ℕ) → In p c → cells_of p a ≡ cells_of p b → get_or a c d ≡ get_or b c d
same-cell {A} d p a b c inside agree = at a ∙ ap (λ (l : List A). get_or l (c - p.from) d) agree ∙ sym (at b)
  where
    at : (cells : List A) → get_or cells c d ≡ get_or (cells_of p cells) (c - p.from) d
    at cells =
        let whole : p.from + (c - p.from) ≡ c = omega (arith, inside.from) in
        sym (get_or-take p.len (drop p.from cells) (c - p.from) d (omega (arith, inside.from, inside.to)) ∙ get_or-drop p.from cells (c - p.from) d ∙ ap (λ (i : ℕ). get_or cells i d) whole)
