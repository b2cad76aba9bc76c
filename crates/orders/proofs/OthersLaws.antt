-- One of several parts of a list is replaced: the others are as they were, since no two share a cell.
-- Assumes nothing.
use Prim.Native.Nat.{ℕ, ◌+◌, ◌*◌, ◌≤◌, ◌<◌}
use mathlib.Core.Path.{◌≡◌}
use mathlib.Core.Logic.{◌≢◌}
use mathlib.Core.Bool.{false, ◌&&◌}
use mathlib.Core.List.{List}
use native.Mathlib.Nat.{le_antisymm, le_of_suc-le-suc, lt_of_mul-lt-mul_left, mul-suc}
use lib.Dec.{ltb}
use lib.ListN.{length, get_or, drop}
use Rattle.lists.proofs.TestLaws.{false_of, both_true}
use borrow.Author.Tests.{ltb-true}
use Rattle.orders.specs.declared.Part.{Part}
use Rattle.orders.specs.Parts.{part, cells_of, replaced, Within}
use Rattle.orders.specs.Refused.{share}
use Rattle.orders.proofs.PartLaws.{Beside, apart, length-replaced, cells-replaced, rest-replaced, beside-replaced, same-part}

-- parts of one length in a row share no cell
pub in_a_row : (size j k : ℕ) → j ≢ k → share (part (size * j) size) (part (size * k) size) ≡ false
in_a_row size j k other =
    false_of (share (part (size * j) size) (part (size * k) size)) (λ all.
    let last = both_true (ltb 0 size && ltb 0 size && ltb (size * j) (size * k + size)) (ltb (size * k) (size * j + size)) all in
    let third = both_true (ltb 0 size && ltb 0 size) (ltb (size * j) (size * k + size)) last.0 in
    other (le_antisymm (no-further j k (ltb-true _ _ third.1)) (no-further k j (ltb-true _ _ last.1))))
  where
    no-further : (a b : ℕ) → size * a < size * b + size → a ≤ b
    no-further a b under = le_of_suc-le-suc (lt_of_mul-lt-mul_left size (rw (mul-suc size b) under))

-- A list of which the part number k has become new: it is as long, the part holds what is new, and each other part, each cell beside it and the rest after
-- it are as they were.
pub record WrittenAt {A : Type 0} (parts : ℕ → Part) (n k : ℕ) (old now new : List A) : Type 0 where
  pub as_long : length now ≡ length old
  pub own : cells_of (parts k) now ≡ new
  pub others : (j : ℕ) → j < n → j ≢ k → cells_of (parts j) now ≡ cells_of (parts j) old
  pub beside : (past : A) (c : ℕ) → Beside (parts k) c → get_or now c past ≡ get_or old c past
  pub rest : drop ((parts k).from + (parts k).len) now ≡ drop ((parts k).from + (parts k).len) old

module _ {A : Type 0} (past : A) (parts : ℕ → Part) {n k : ℕ} {old new : List A} (less : k < n) (within : (j : ℕ) → j < n → Within (parts j) old)
    (none-shared : (j : ℕ) → j < n → j ≢ k → share (parts k) (parts j) ≡ false) (as_long : length new ≡ (parts k).len) where
  as-new : WrittenAt parts n k old (replaced (parts k) new old) new
  as-new =
      record {
        as_long = still-long;
        own = cells-replaced (parts k) old (within k less) new as_long;
        others = λ j less-j other. same-part past (parts j) (replaced (parts k) new old) old (rw still-long (within j less-j)) still-long
            (λ c inside. beside-replaced (parts k) old (within k less) new as_long c past (apart (parts k) (parts j) (none-shared j less-j other) c inside));
        beside = λ past c. beside-replaced (parts k) old (within k less) new as_long c past;
        rest = rest-replaced (parts k) old (within k less) new as_long;
      }
    where
      still-long : length (replaced (parts k) new old) ≡ length old
      still-long = length-replaced (parts k) old (within k less) new as_long

  pub written : {now : List A} → now ≡ replaced (parts k) new old → WrittenAt parts n k old now new
  written put = rw put as-new
