-- A state is sound, and the walk from it folds the same pairs and closes others for the same reasons, in whatever order its open pairs are listed.
-- Assumes nothing.
use Prim.Native.Nat.{ℕ, ◌^◌, ◌≤◌}
use mathlib.Core.Path.{◌≡◌, refl, ap, ◌∙◌}
use lib.ListN.{length}
use Rattle.walk.specs.Faces.{Rules}
use Rattle.walk.specs.Walk.{walk, fold_list, reason_list, fold_of, reason_of, State, SameState, budget, answer, plain_machine}
use Rattle.walk.specs.Sound.{Sound, held_by, joins}
use Rattle.lists.proofs.BagLaws.{bag-refl, bag-trans, bag-length, bag-every, bag-count}
use Rattle.walk.proofs.BagWalk.{answer-bag, step-bag, sound-fitting}
use Rattle.walk.proofs.StepLaws.{step-sound}
use Rattle.walk.proofs.MachineLaws.{Alike, start-alike, told-alike}
use Rattle.walk.proofs.WalkLaws.{after-points, faces_left}

module _ {D : Type 0} where
  pub same_refl : {s : State D} → SameState s s
  same_refl = record { same_mesh = refl; same_open = bag-refl }

  pub same-trans : {s t u : State D} → SameState s t → SameState t u → SameState s u
  same-trans one two = record {
    same_mesh = one.same_mesh ∙ two.same_mesh;
    same_open = bag-trans one.same_open two.same_open;
  }

  -- what is sound hangs on the bag alone
  pub sound-bag : {s t : State D} → SameState s t → Sound t → Sound s
  sound-bag {s} {t} same sound = record {
    faces_proper = rw same.same_mesh sound.faces_proper;
    open_held = bag-every same.same_open (held_by s) ∙ rw same.same_mesh sound.open_held;
    open_single = λ x y. rw (bag-count same.same_open (joins x y)) (sound.open_single x y);
  }

  pub budget-bag : (faces : ℕ) {s t : State D} → SameState s t → budget faces s ≡ budget faces t
  unfolding budget
  budget-bag faces same = rw (same.same_mesh, bag-length same.same_open)

-- a state that is sound and has no more points than can be numbered
abbrev pub SoundFew : {D : Type 0} → State D → Type 0
SoundFew s = Sound s × (length s.mesh.points ≤ 2 ^ 32)

module _ {D : Type 0} (rules : Rules D) (target faces : ℕ) where
  -- the plain walk answers the same in whatever order the open pairs are listed
  pub plain-alike : Alike (plain_machine rules target) SoundFew SameState (budget faces) faces_left
  plain-alike = record {
    stays_fit = λ s fit. (step-sound rules target s fit.0, rw (after-points rules s (answer rules target s)) fit.1);
    itself = λ s. same_refl;
    chained = same-trans;
    same_answer = λ fit same. answer-bag rules same target (sound-fitting fit.0 fit.1);
    same_step = λ fit same. step-bag rules same target (sound-fitting fit.0 fit.1);
    same_budget = budget-bag faces;
    same_size = λ same. ap (λ m. length m.faces) same.same_mesh;
  }

  -- so from two states that differ in that order the same is walked
  pub start-bag : {s t : State D} → SoundFew s → SameState s t →
      ((walk (plain_machine rules target) (budget faces s) s).mesh ≡ (walk (plain_machine rules target) (budget faces t) t).mesh)
      × (fold_list (plain_machine rules target) (budget faces s) s ≡ fold_list (plain_machine rules target) (budget faces t) t)
      × (reason_list (plain_machine rules target) (budget faces s) s ≡ reason_list (plain_machine rules target) (budget faces t) t)
  start-bag fit same =
      ((start-alike plain-alike fit same).same_mesh, told-alike plain-alike fold_of fit same, told-alike plain-alike reason_of fit same)
