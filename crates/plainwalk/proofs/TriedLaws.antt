-- A pair that was found and tried: what each call asks, and that the answer is the plain walk's.
-- Assumes nothing.
use Prim.Native.Nat.{ℕ, ◌+◌, ◌*◌, ◌-◌, ◌≤◌, ◌<◌}
use native.Mathlib.Omega.{arith}
use mathlib.Core.Path.{◌≡◌}
use mathlib.Core.Logic.{◌≢◌}
use mathlib.Core.List.{List}
use lib.Ieee.{Float}
use lib.ListN.{length}
use Rattle.walk.specs.declared.Reason.{Reason}
use Rattle.walk.specs.Pairs.{pair_of, opened}
use Rattle.walk.proofs.SoundLaws.{is_open_pair, open-differ}
use Rattle.meaning.specs.Arithmetic.{rules_of}
use Rattle.memory.specs.Memory.{live_faces, Room}
use Rattle.memory.specs.Points.{mesh_of}
use Rattle.mesh.specs.Clauses.Chains.{Tidy}
use Rattle.openpairs.specs.declared.pairs.Least.{Least}
use Rattle.openpairs.specs.State.{state_of}
use Rattle.openpairs.specs.Clauses.Changes.{Dropped, Added, Closed as ClosedAt}
use Rattle.std.specs.Prelude.{Ok, Err, Option}
use Rattle.folding.specs.Clauses.Folds.{FoldTried}
use Rattle.plainwalk.specs.declared.Step.TheVariants.{Folded, Closed}
use Rattle.plainwalk.specs.Steps.{Holds, Found, PairTried}
use Rattle.plainwalk.proofs.MemoryLaws.{open-few, holds-but}
use Rattle.plainwalk.proofs.AnswerLaws.{found-open, found-points, found-but, closed-done, tried-folded, tried-closed, tried-before}
use Rattle.plainwalk.proofs.FoldedLaws.{left-live, dropped-tidy, room-left, folded-done}

module _ {v f : ℕ} {w : List ℕ} {p q : List Float} {n live : ℕ} {bound : Float} {least : Least}
    (h : Holds v f w p q n live) (found : Found v f w p q n bound least) where
  -- its points are two, below v
  pub found-two : (least.fold.keep < v) × (least.fold.remove < v) × (least.fold.keep ≢ least.fold.remove)
  found-two =
      let points = found-points h found in
      (points.0, points.1, open-differ _ h.sound _ (found-open h found))

  -- ---- the fold is made

  module _ {limit : Option Float} {w₁ : List ℕ} {p' q' : List Float} {gone : ℕ}
      (tried : FoldTried v f limit bound w p q least.fold.keep least.fold.remove w₁ p' q' (Ok gone)) where
    -- listing the faces around its points leaves the state and the pair
    listed-holds : Holds v f tried.listed p q n live
    listed-holds = holds-but h tried.but (omega arith)

    listed-open : is_open_pair (state_of v f tried.listed p q n) (pair_of least.fold.keep least.fold.remove)
    listed-open = found-open listed-holds (found-but h found tried.but (omega arith))

    -- so many faces are left, and there is room to drop pairs
    pub made-live : length (live_faces f w₁) + gone ≡ live
    made-live = left-live listed-holds tried.came.1

    pub made-few : (n ≤ 3 * f) × Room v f w₁
    made-few = (open-few h, tried.came.1.tidy.room)

    module _ {w₂ : List ℕ} {kept : ℕ} (drop : Dropped v f w₁ n least.fold.keep least.fold.remove w₂ kept) where
      -- what opening pairs asks
      pub made-open : Tidy v f w₂ × (3 * v ≤ length p') × (10 * v ≤ length q')
          × (kept + length (opened (rules_of limit bound) (mesh_of v f w₂ p' q') least.fold.keep) ≤ 3 * f)
      made-open =
          let fold = tried.came.1 in (
            dropped-tidy listed-holds fold drop listed-open,
            omega (arith, fold.same_length_p, h.points_long),
            omega (arith, fold.same_length_q, h.quadrics_long),
            room-left listed-holds fold drop listed-open,
          )

      pub made-done : {w₃ : List ℕ} {more : ℕ} → Added v f w₂ kept (opened (rules_of limit bound) (mesh_of v f w₂ p' q') least.fold.keep) w₃ more →
          PairTried v f w p q n least limit bound w₃ p' q'
          (record { step = Folded (pair_of least.fold.keep least.fold.remove); «open» = more; live = live - gone })
      made-done add =
          tried-before least h tried.but (omega arith) (omega arith)
          (tried-folded _ _ _ _ _ _ least limit bound tried.came.0 (folded-done listed-holds tried.came.1 drop listed-open add))

  -- ---- it isn't allowed

  module _ {limit : Option Float} {w₁ : List ℕ} {p' q' : List Float}
      {reason : Reason} (tried : FoldTried v f limit bound w p q least.fold.keep least.fold.remove w₁ p' q' (Err reason)) where
    -- what closing the pair asks
    pub refused-few : (least.at < n) × (n ≤ 3 * f) × Room v f w₁
    refused-few = rw tried.came.1 (found.within, open-few h, (holds-but h tried.but (omega arith)).tidy.room)

    pub refused-done : {w₂ : List ℕ} {n' : ℕ} → ClosedAt v f w₁ n least.at w₂ n' →
        PairTried v f w p q n least limit bound w₂ p' q'
        (record { step = Closed (pair_of least.fold.keep least.fold.remove) reason; «open» = n'; live = live })
    refused-done close =
        rw (tried.came.2, tried.came.3)
        (tried-before least h tried.but (omega arith) (omega arith)
        (tried-closed _ _ _ _ _ _ least limit bound tried.came.0
        (closed-done (holds-but h tried.but (omega arith)) (found-but h found tried.but (omega arith)) (rw tried.came.1 at close) limit reason)))
