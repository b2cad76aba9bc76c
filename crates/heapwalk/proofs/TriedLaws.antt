-- A pair that is off the queue and was tried: what each call asks, and that the answer is the plain walk's.
-- Assumes nothing.
use Prim.Native.Nat.{ℕ, ◌+◌, ◌*◌, ◌-◌, ◌^◌, ◌≤◌, ◌<◌}
use native.Mathlib.Omega.{arith}
use mathlib.Core.Path.{◌≡◌}
use mathlib.Core.List.{List}
use lib.Ieee.{Float}
use lib.ListN.{length}
use Rattle.std.specs.Prelude.{Option}
use Rattle.geometry.specs.declared.Point.{Point}
use Rattle.walk.specs.declared.Reason.{Reason}
use Rattle.walk.specs.Walk.{told_by, tried}
use Rattle.walk.specs.Pairs.{pair_of}
use Rattle.meaning.specs.Arithmetic.{rules_of}
use Rattle.memory.specs.Memory.{live_faces, Room}
use Rattle.memory.specs.Points.{mesh_of}
use Rattle.memory.specs.Entries.{stamp}
use Rattle.ring.specs.declared.Neighbours.TheVariants.{Every}
use Rattle.openpairs.specs.Clauses.Edges.{opened_around}
use Rattle.std.specs.Prelude.{Ok, Err}
use Rattle.folding.specs.Clauses.Folds.{FoldTried}
use Rattle.plainwalk.specs.declared.Step.TheVariants.{Folded, Closed}
use Rattle.queue.specs.State.{open_in}
use Rattle.heapwalk.specs.Clauses.Entering.{Open, Entered}
use Rattle.heapwalk.specs.Clauses.Trying.{PairHolds, PairAnswer}
use Rattle.heapwalk.proofs.StampLaws.{bumped}
use Rattle.heapwalk.proofs.MemoryLaws.{pair-but}
use Rattle.heapwalk.proofs.AnswerLaws.{closed-done, tried-by, tried-before}
use Rattle.heapwalk.proofs.FoldedLaws.{left-live, keep-grows, remove-grows, stamped-open, room-left, folded-done}

module _ {v f : ℕ} {w : List ℕ} {p q : List Float} {n live : ℕ} {limit : Option Float} {bound : Float} {keep remove : ℕ} {place : Point} {w₁ : List ℕ} {p' q' : List Float}
    (h : PairHolds v f w p q n live bound keep remove place) where
  -- ---- the fold is made

  module _ {gone : ℕ} (made : FoldTried v f limit bound w p q keep remove w₁ p' q' (Ok gone)) where
    -- listing the faces around its points leaves the state and the pair
    listed-holds : PairHolds v f made.listed p q n live bound keep remove place
    listed-holds = pair-but h made.but (omega arith)

    -- so many faces are left, and each stamp may rise
    pub made-live : length (live_faces f w₁) + gone ≡ live
    made-live = left-live listed-holds made.came.1

    pub keep-rises : (keep < v) × Room v f w₁ × (stamp v f w₁ keep + 1 < 2 ^ 32)
    keep-rises = keep-grows listed-holds made.came.1

    pub remove-rises : {w₂ : List ℕ} → w₂ ≡ bumped v f w₁ keep → (remove < v) × Room v f w₂ × (stamp v f w₂ remove + 1 < 2 ^ 32)
    remove-rises one = remove-grows listed-holds made.came.1 one

    module _ {w₂ w₃ : List ℕ} (one : w₂ ≡ bumped v f w₁ keep) (two : w₃ ≡ bumped v f w₂ remove) where
      -- what entering pairs asks
      pub made-open : Open v f w₃ p' q' n bound
          × (length (open_in v f w₃ n) + length (opened_around (rules_of limit bound) (mesh_of v f w₃ p' q') Every keep) ≤ 3 * f)
      made-open = (stamped-open listed-holds made.came.1 one two, room-left listed-holds made.came.1 one two)

      pub made-done : {w₄ : List ℕ} {p₄ q₄ : List Float} {more : ℕ} →
          Entered v f w₃ p' q' n limit bound (opened_around (rules_of limit bound) (mesh_of v f w₃ p' q') Every keep) w₄ p₄ q₄ more →
          PairAnswer v f w p q n keep remove limit bound (tried (rules_of limit bound) (mesh_of v f w p q) (pair_of keep remove)) w₄ p₄ q₄
          (record { step = Folded (pair_of keep remove); «open» = more; live = live - gone })
      unfolding told_by
      made-done enter =
          tried-before h made.but (omega arith) (omega arith)
          (tried-by _ _ _ _ _ _ _ _ _ _ made.came.0 (folded-done listed-holds made.came.1 one two enter))

  -- ---- it isn't allowed

  pub refused-done : {reason : Reason} → FoldTried v f limit bound w p q keep remove w₁ p' q' (Err reason) →
      PairAnswer v f w p q n keep remove limit bound (tried (rules_of limit bound) (mesh_of v f w p q) (pair_of keep remove)) w₁ p' q'
      (record { step = Closed (pair_of keep remove) reason; «open» = n; live = live })
  unfolding told_by
  refused-done {reason} refused =
      rw (refused.came.1, refused.came.2, refused.came.3)
      (tried-before h refused.but (omega arith) (omega arith)
      (tried-by _ _ _ _ _ _ _ _ _ _ refused.came.0 (closed-done (pair-but h refused.but (omega arith)) limit reason)))
