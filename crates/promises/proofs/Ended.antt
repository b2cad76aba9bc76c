-- The walk that defines the outcome of an admitted input goes through sound states only and has come to its end; more steps change nothing.
-- Assumes nothing.
use Prim.Native.Nat.{ℕ, ◌≤◌}
use native.Mathlib.Nat.{le_refl}
use native.Mathlib.Omega.{arith}
use mathlib.Core.Path.{◌≡◌, refl, ap, ◌∙◌}
use mathlib.Core.Logic.{◌⊎◌, inl, inr}
use mathlib.Core.List.{[], Memᴰ}
use borrow.Author.Tests.{ltb-true, ltb-false}
use lib.Dec.{ltb}
use lib.ListN.{length}
use Rattle.lists.proofs.TestLaws.{by-test}
use Rattle.lists.proofs.BelowLaws.{length-each}
use Rattle.placement.specs.declared.pair.Vertex.{Vertex}
use Rattle.walk.specs.declared.Pair.{Pair}
use Rattle.walk.specs.Faces.{face_at}
use Rattle.walk.specs.Closings.{closings_of}
use Rattle.walk.specs.Walk.{walk, fold_list, reason_list, fold_of, reason_of, State, folded, ended, started, budget, answer, plain_machine}
use Rattle.walk.specs.Sound.{Sound}
use Rattle.walk.proofs.SoundLaws.{started-sound}
use Rattle.walk.proofs.StepLaws.{ended-open, fold-answer}
use Rattle.walk.proofs.MachineLaws as machines
use Rattle.walk.proofs.WalkLaws.{plain-ending, walk-sound, walk-points, walk_ends, walk-enough}
use Rattle.walk.proofs.StateLaws.{SoundFew}
use Rattle.std.specs.Prelude.{Ok}
use Rattle.meaning.specs.declared.Task.TheVariants.{Admitted}
use Rattle.meaning.specs.Input.{Input, points_in, faces_in}
use Rattle.meaning.specs.Answers.{verdict_of}
use Rattle.meaning.specs.Start.{start_vertex, start_mesh}
use Rattle.meaning.specs.Outcome.{rules_in, start_of, target_of, last_mesh, folds_walked, closed_walked}
use Rattle.promises.specs.Steps.{state_at, answer_at, folds_to, reasons_to, budget_of, given_faces}
use Rattle.promises.proofs.Admitted.{passed}

-- ---- the folds

-- every fold that the outcome counts and lists is the answer of some step
pub folds-are-steps : (i : Input) (p : Pair) → Memᴰ p (folds_walked i) → (n : ℕ) × (answer_at i n ≡ folded p)
unfolding folds_walked
folds-are-steps i p m =
    let (n, _, there) = machines.collected-step (plain_machine (rules_in i) (target_of i)) fold_of (budget_of i) (start_of i) p m in
    (n, fold-answer (answer_at i n) p there)

-- ---- the start

-- V points
pub start-points : (i : Input) → length (start_of i).mesh.points ≡ points_in i
unfolding start_of started start_mesh
start-points i = length-each (start_vertex i.points (given_faces i) (points_in i) i.options.preserve i.margin) (points_in i)

-- the input's faces
pub start-faces : (i : Input) → (start_of i).mesh.faces ≡ given_faces i
unfolding start_of started start_mesh
start-faces i = refl

-- F of them
pub start-count : (i : Input) → length (start_of i).mesh.faces ≡ faces_in i
start-count i = ap length (start-faces i) ∙ length-each (face_at i.faces) (faces_in i)

module _ (i : Input) (admitted : verdict_of i ≡ Ok Admitted) where
  -- sound
  pub start-sound : Sound (start_of i)
  unfolding start_of start_mesh
  start-sound =
      started-sound (rules_in i) (start_mesh (points_in i) (faces_in i) i.points i.faces i.options.preserve i.margin)
      (rw length-each (passed i admitted).faces_proper)

  -- ---- every state that the walk reaches

  -- is sound
  pub states-sound : (n : ℕ) → Sound (state_at i n)
  states-sound n = walk-sound (rules_in i) (target_of i) n (start_of i) start-sound

  -- has V points still
  pub states-points : (n : ℕ) → length (state_at i n).mesh.points ≡ points_in i
  states-points n = walk-points (rules_in i) (target_of i) n (start_of i) ∙ start-points i

  -- so that they can be numbered
  pub states-few : (n : ℕ) → SoundFew (state_at i n)
  states-few n = (states-sound n, omega (arith, states-points n, (passed i admitted).points_most))

  -- ---- the end

  -- no more faces than the budget is made for
  few : length (start_of i).mesh.faces ≤ faces_in i
  few = omega (arith, start-count i)

  -- the walk that defines the outcome has ended
  pub walk-has-ended :
      answer (rules_in i) (target_of i) (walk (plain_machine (rules_in i) (target_of i)) (budget (faces_in i) (start_of i)) (start_of i)) ≡ ended
  walk-has-ended = walk_ends (rules_in i) (target_of i) (faces_in i) (budget_of i) (start_of i) start-sound few (le_refl _)

  -- any larger number of steps comes to the same state with the same folds and the same closings, so that the budget need not be believed
  pub any-budget :
      (n : ℕ) → budget (faces_in i) (start_of i) ≤ n
      → (walk (plain_machine (rules_in i) (target_of i)) n (start_of i)
      ≡ walk (plain_machine (rules_in i) (target_of i)) (budget (faces_in i) (start_of i)) (start_of i))
      × (fold_list (plain_machine (rules_in i) (target_of i)) n (start_of i) ≡ folds_walked i)
      × (closings_of (reason_list (plain_machine (rules_in i) (target_of i)) n (start_of i)) ≡ closed_walked i)
  unfolding folds_walked closed_walked
  any-budget n enough =
      let same = walk-enough (rules_in i) (target_of i) (faces_in i) n (start_of i) start-sound few enough in
      (same.0, same.1, ap closings_of same.2)

  -- and wherever the answer is the end, the mesh is the last one, the folds are all, and so are the closings
  pub wherever-ended : (n : ℕ) → answer_at i n ≡ ended →
      ((state_at i n).mesh ≡ last_mesh i) × (folds_to i n ≡ folds_walked i) × (closings_of (reasons_to i n) ≡ closed_walked i)
  unfolding last_mesh folds_walked closed_walked fold_of reason_of
  wherever-ended n e =
      let ending = plain-ending (rules_in i) (target_of i) (faces_in i) in (
        ap (λ (s : State Vertex). s.mesh) (machines.walk-over ending n (start_of i) (start-sound, few) e),
        machines.collected-over ending fold_of refl n (start_of i) (start-sound, few) e,
        ap closings_of (machines.collected-over ending reason_of refl n (start_of i) (start-sound, few) e),
      )

  -- it has ended at the target, or with no pair open
  pub ended-because : (length (last_mesh i).faces ≤ target_of i) ⊎ ((state_at i (budget_of i)).«open» ≡ [])
  unfolding last_mesh
  ended-because =
      by-test (ltb (target_of i) (length (last_mesh i).faces))
      (λ above. inr (ended-open (rules_in i) (target_of i) (state_at i (budget_of i)) walk-has-ended (ltb-true (target_of i) (length (last_mesh i).faces) above)))
      (λ few. inl (ltb-false (target_of i) (length (last_mesh i).faces) few))
