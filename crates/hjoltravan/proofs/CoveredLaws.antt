-- Two lists that agree in each of several parts, and in each cell that none of them has, are the same.
-- Assumes nothing.
use Prim.Native.Nat.{ℕ, zero, suc, ◌+◌, ◌*◌, ◌<◌}
use mathlib.Core.Path.{◌≡◌, sym, ◌∙◌}
use mathlib.Core.Bool.{true, false}
use mathlib.Core.List.{List}
use native.Mathlib.Omega.{arith}
use native.Mathlib.Nat.{mul-suc, mul-zero, not-suc-le-zero}
use lib.Dec.{ltb, leb}
use lib.ListN.{length, get_or}
use lib.Seq.{ext_get_or}
use borrow.Author.Tests.{lt-ltb, le-leb, ltb-true, ltb-false, leb-true}
use Rattle.lists.specs.Lists.{some, below}
use Rattle.lists.proofs.DropLaws.{past-drop}
use Rattle.lists.proofs.TestLaws.{by-test, both_true, clash}
use Rattle.orders.specs.declared.Part.{Part}
use Rattle.orders.specs.Parts.{part, cells_of, In}
use Rattle.orders.proofs.PartLaws.{same-cell}
use Rattle.orders.proofs.FineLaws.{none_below, one_below}
use Rattle.hjoltravan.specs.Orders.{has, RestSame}

-- a cell that a part has
inside : (p : Part) (c : ℕ) → has p c ≡ true → In p c
inside p c both =
    let two = both_true (leb p.from c) (ltb c (p.from + p.len)) both in
    record { from = leb-true p.from c two.0; to = ltb-true c (p.from + p.len) two.1 }

module _ {A : Type 0} (past : A) (parts : ℕ → Part) (n : ℕ) (a b : List A) where
  pub covered : length a ≡ length b → ((k : ℕ) → k < n → cells_of (parts k) a ≡ cells_of (parts k) b) →
      ((c : ℕ) → ((k : ℕ) → k < n → has (parts k) c ≡ false) → get_or a c past ≡ get_or b c past) → a ≡ b
  covered as_long in_parts elsewhere =
      ext_get_or past a b as_long (λ c _.
      by-test (some (λ k. has (parts k) c) (below n))
      (λ (found : some (λ k. has (parts k) c) (below n) ≡ true).
      let one = one_below (λ k. has (parts k) c) n found in
      same-cell past (parts one.0) a b c (inside (parts one.0) c one.2) (in_parts one.0 one.1))
      (λ (none : some (λ k. has (parts k) c) (below n) ≡ false). elsewhere c (λ k less. none_below (λ k. has (parts k) c) n k none less)))

-- of parts of one length in a row, a cell before their end has one
row_of : (size n c : ℕ) → c < size * n → (k : ℕ) × (k < n) × (has (part (size * k) size) c ≡ true)
row_of size zero c less = absurd (not-suc-le-zero (rw (mul-zero size) at less))
row_of size (suc n) c less =
    by-test (ltb c (size * n))
    (λ (earlier : ltb c (size * n) ≡ true).
    let one = row_of size n c (ltb-true c (size * n) earlier) in (one.0, omega (arith, one.1), one.2))
    (λ (not-Earlier : ltb c (size * n) ≡ false).
    (n, omega arith, rw (le-leb (size * n) c (ltb-false c (size * n) not-Earlier), lt-ltb c (size * n + size) (rw (mul-suc size n) at less))))

-- two lists that came from one, and agree in a row of parts up to which nothing else was written
pub covered-row : {A : Type 0} (past : A) (size n : ℕ) {old a b : List A} → RestSame (size * n) old a → RestSame (size * n) old b →
    ((k : ℕ) → k < n → cells_of (part (size * k) size) a ≡ cells_of (part (size * k) size) b) → a ≡ b
covered-row past size n {old} {a} {b} rest-a rest-b in_parts =
    covered past (λ k. part (size * k) size) n a b (rest-a.as_long ∙ sym rest-b.as_long) in_parts
    (λ c none. by-test (ltb c (size * n))
    (λ (within : ltb c (size * n) ≡ true). let one = row_of size n c (ltb-true c (size * n) within) in clash one.2 (none one.0 one.1))
    (λ (over : ltb c (size * n) ≡ false). past-drop past a b (size * n) (rest-a.same ∙ sym rest-b.same) c (ltb-false c (size * n) over)))
