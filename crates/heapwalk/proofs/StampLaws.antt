-- Both points of a fold get a stamp that is one higher.
-- Assumes nothing.
use Prim.Native.Nat.{ℕ, ◌+◌, ◌<◌}
use native.Mathlib.Nat.{add-zero}
use native.Mathlib.Omega.{arith}
use mathlib.Core.Path.{◌≡◌, ap, ◌∙◌}
use mathlib.Core.Logic.{◌≢◌}
use mathlib.Core.List.{List}
use mathlib.Core.Bool.{cond}
use lib.Dec.{eqb}
use lib.ListN.{set}
use lib.Seq.{get_or-set_same, get_or-set_other}
use borrow.Author.Tests.{eqb-true, eqb-false}
use Rattle.lists.proofs.TestLaws.{by-test, not-two}
use Rattle.memory.specs.Memory.{Room}
use Rattle.lists.specs.Frames.{But}
use Rattle.lists.proofs.CondLaws.{one_of_two}
use Rattle.lists.proofs.FrameLaws.{but-set, but-then}
use Rattle.memory.specs.Entries.{stamp}
use Rattle.memory.specs.Layout.{keeps_from, stamps_from}
use Rattle.walk.proofs.PairLaws.{touches}

-- the memory with the stamp of x one higher
abbrev pub bumped : ℕ → ℕ → List ℕ → ℕ → List ℕ
bumped v f w x = set w (stamps_from v f + x) (stamp v f w x + 1)

module _ {v f : ℕ} {w : List ℕ} (room : Room v f w) (x : ℕ) (inside : x < v) where
  pub bumped-but : But (stamps_from v f) (keeps_from v f) w (bumped v f w x)
  bumped-but = but-set (stamps_from v f) (keeps_from v f) w (stamps_from v f + x) (stamp v f w x + 1) (omega arith) (omega arith)

  pub bumped-stamp : (y : ℕ) → stamp v f (bumped v f w x) y ≡ stamp v f w y + cond (eqb y x) 1 0
  bumped-stamp y =
      by-test (eqb y x)
      (λ e. rw (e, eqb-true y x e) (get_or-set_same w (stamps_from v f + x) (stamp v f w x + 1) 0 (omega (arith, room.long))))
      (λ e. rw (e, add-zero) (get_or-set_other w (stamps_from v f + x) (stamps_from v f + y) (stamp v f w x + 1) 0 (λ d. eqb-false y x e (omega arith))))

-- keep, then remove
module _ {v f : ℕ} {w w₁ : List ℕ} {keep : ℕ} (room : Room v f w) (keep-inside : keep < v) (one : w₁ ≡ bumped v f w keep) where
  pub first-but : But (stamps_from v f) (keeps_from v f) w w₁
  first-but = rw one (bumped-but room keep keep-inside)

  pub first-room : Room v f w₁
  first-room = record { points_few = room.points_few; faces_few = room.faces_few; long = rw first-but.same_length room.long }

  pub first-stamp : (y : ℕ) → stamp v f w₁ y ≡ stamp v f w y + cond (eqb y keep) 1 0
  first-stamp y = ap (λ (u : List ℕ). stamp v f u y) one ∙ bumped-stamp room keep keep-inside y

module _ {v f : ℕ} {w w₁ w₂ : List ℕ} {keep remove : ℕ} (room : Room v f w) (keep-inside : keep < v) (remove-inside : remove < v) (differ : keep ≢ remove)
    (one : w₁ ≡ bumped v f w keep) (two : w₂ ≡ bumped v f w₁ remove) where
  pub both-but : But (stamps_from v f) (keeps_from v f) w w₂
  both-but = but-then (first-but room keep-inside one) (first-but (first-room room keep-inside one) remove-inside two)

  pub both-stamps : (y : ℕ) → stamp v f w₂ y ≡ stamp v f w y + cond (touches keep remove y) 1 0
  both-stamps y =
      first-stamp (first-room room keep-inside one) remove-inside two y
      ∙ ap (λ (k : ℕ). k + cond (eqb y remove) 1 0) (first-stamp room keep-inside one y)
      ∙ one_of_two (stamp v f w y) (eqb y keep) (eqb y remove) (not-two y keep remove differ)
