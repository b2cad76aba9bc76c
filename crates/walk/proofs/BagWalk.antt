-- A step of the walk hangs on the bag of open pairs and not on their order: two states with the same mesh and the same bag have the same answer,
-- and after it the same mesh and the same bag again. Assumes nothing.
use Prim.Native.Nat.{ℕ, ◌^◌, ◌≤◌}
use native.Mathlib.Nat.{lt_of_lt_of_le}
use mathlib.Core.Path.{◌≡◌}
use mathlib.Core.Bool.{true}
use lib.ListN.{length}
use Rattle.walk.specs.declared.Pair.{Pair}
use Rattle.lists.specs.Lists.{every}
use Rattle.walk.specs.Faces.{Rules}
use Rattle.walk.specs.Walk.{State, SameState, StepAnswer, folded, closed, ended, answer, after}
use Rattle.walk.specs.Pairs.{apart}
use Rattle.walk.specs.Sound.{Sound, held_by}
use Rattle.lists.proofs.EveryLaws.{every-implies}
use Rattle.lists.proofs.BagLaws.{bag-refl, bag-append, bag-those}
use Rattle.walk.proofs.SoundLaws.{held-points}
use Rattle.walk.proofs.SamePairs.{bag-without-pair}
use Rattle.walk.proofs.LeastLaws.{fitting, fitting-from, chosen-bag}

module _ {D : Type 0} (rules : Rules D) {s t : State D} (same : SameState s t) where
  -- the same answer
  pub answer-bag : (target : ℕ) → every fitting s.«open» ≡ true → answer rules target s ≡ answer rules target t
  unfolding answer
  answer-bag target fit = rw (same.same_mesh, chosen-bag rules t.mesh s.«open» t.«open» same.same_open fit)

  -- the same state after any answer, up to order
  pub after-bag : (a : StepAnswer) → SameState (after rules s a) (after rules t a)
  unfolding after
  after-bag (folded p) =
      record {
        same_mesh = rw same.same_mesh;
        same_open = rw same.same_mesh (bag-append (bag-those same.same_open (apart p)) bag-refl);
      }
  after-bag (closed p reason) = record { same_mesh = same.same_mesh; same_open = bag-without-pair same.same_open p }
  after-bag ended = same

  -- both in one
  pub step-bag : (target : ℕ) → every fitting s.«open» ≡ true →
      SameState (after rules s (answer rules target s)) (after rules t (answer rules target t))
  step-bag target fit = rw (answer-bag target fit) (after-bag (answer rules target t))

-- ---- the numbers of a sound state's open pairs fit

-- an open pair is held by a proper face, so its numbers are below the number of points
pub sound-fitting : {D : Type 0} {s : State D} → Sound s → length s.mesh.points ≤ 2 ^ 32 → every fitting s.«open» ≡ true
sound-fitting {D} {s} sound size = every-implies (held_by s) fitting fits s.«open» sound.open_held
  where
    fits : (p : Pair) → held_by s p ≡ true → fitting p ≡ true
    fits p held =
        let (keep-below, remove-below) = held-points s sound p held in
        fitting-from p (lt_of_lt_of_le keep-below size) (lt_of_lt_of_le remove-below size)
