-- The plain walk as a machine: it is sound at every step, each fold kills a face, it ends within its budget, and each step before its end folds or closes a pair.
-- Assumes nothing.
use Prim.Native.Nat.{ℕ, zero, suc, ◌+◌, ◌≤◌, ◌<◌}
use mathlib.Core.Path.{◌≡◌, refl, ◌∙◌}
use mathlib.Core.Logic.{◌≢◌, ◌⊎◌, inl, inr}
use native.Mathlib.Nat.{le_refl}
use native.Mathlib.Omega.{arith}
use lib.ListN.{length, length-append, length-set}
use Rattle.lists.proofs.EveryLaws.{length_without}
use Rattle.walk.specs.Faces.{Rules}
use Rattle.walk.specs.Fold.{folded_mesh}
use Rattle.walk.specs.Pairs.{same_pair}
use Rattle.walk.specs.Walk.{walk, collected, fold_list, reason_list, State, StepAnswer, folded, closed, ended, fold_of, reason_of, budget, answer, after, plain_machine}
use Rattle.walk.specs.Sound.{Sound}
use Rattle.walk.proofs.MachineLaws as machines
use Rattle.walk.proofs.MachineLaws.{Ending}
use Rattle.walk.proofs.StepLaws.{Told, answer-told, step-sound, fold-fewer, budget-falls}

-- an answer is the end or not
ended_or : (a : StepAnswer) → (a ≡ ended) ⊎ (a ≢ ended)
ended_or (folded p) = inr (λ e. let z : ◌≡◌ {A = ℕ} 0 1 = cc in omega arith)
ended_or (closed p reason) = inr (λ e. let z : ◌≡◌ {A = ℕ} 0 1 = cc in omega arith)
ended_or ended = inl refl

-- it closes at most one pair
one_reason : (a : StepAnswer) → length (reason_of a) ≤ 1
unfolding reason_of
one_reason (folded p) = omega arith
one_reason (closed p reason) = omega arith
one_reason ended = omega arith

-- and before the end it folds one or closes one
one-tried : (a : StepAnswer) → a ≢ ended → length (fold_of a) + length (reason_of a) ≡ 1
unfolding fold_of reason_of
one-tried (folded p) on = refl
one-tried (closed p reason) on = refl
one-tried ended on = absurd (on refl)

-- ---- one step

module _ {D : Type 0} (rules : Rules D) where
  -- the points stay as many
  pub after-points : (s : State D) (a : StepAnswer) → length (after rules s a).mesh.points ≡ length s.mesh.points
  unfolding after folded_mesh
  after-points s (folded p) = length-set s.mesh.points p.keep _
  after-points s (closed p reason) = refl
  after-points s ended = refl

  -- the live faces don't grow, and a fold kills one
  told-fewer :
      (s : State D) → Sound s → (a : StepAnswer) → Told rules s.mesh s.«open» a
      → length (fold_of a) + length (after rules s a).mesh.faces ≤ length s.mesh.faces
  unfolding after folded_mesh fold_of
  told-fewer s sound (folded p) told = omega (arith, fold-fewer s sound p told.0)
  told-fewer s sound (closed p reason) told = omega arith
  told-fewer s sound ended told = omega arith

  -- the same of the step's own answer
  pub step_fewer :
      (target : ℕ) (s : State D) → Sound s
      → length (fold_of (answer rules target s)) + length (after rules s (answer rules target s)).mesh.faces
      ≤ length s.mesh.faces
  step_fewer target s sound = told-fewer s sound (answer rules target s) (answer-told rules target s)

  -- an answer that folds none leaves the mesh as it is, and a pair that it closes is open no more
  one-closed : (s : State D) (a : StepAnswer) → Told rules s.mesh s.«open» a → length (fold_of a) ≡ 0 →
      ((after rules s a).mesh ≡ s.mesh) × (length (reason_of a) + length (after rules s a).«open» ≡ length s.«open»)
  unfolding after fold_of reason_of
  one-closed s (folded p) told none = absurd (omega (arith, none))
  one-closed s (closed p reason) told none = (refl, length_without (same_pair p) s.«open» told.0)
  one-closed s ended told none = (refl, omega arith)

-- the live faces of a state, counted
abbrev pub faces_left : {D : Type 0} → State D → ℕ
faces_left s = length s.mesh.faces

-- a state that is sound and has at most so many live faces
abbrev pub SoundWithin : {D : Type 0} → ℕ → State D → Type 0
SoundWithin faces s = Sound s × (faces_left s ≤ faces)

module _ {D : Type 0} (rules : Rules D) (target : ℕ) where
  -- what the laws of a walk ask of its machine
  pub plain-ending : (faces : ℕ) → Ending (plain_machine rules target) (SoundWithin faces) (budget faces) faces_left
  unfolding after fold_of reason_of
  plain-ending faces = record {
    stays_good = λ s good. (step-sound rules target s good.0, omega (arith, step_fewer rules target s good.0));
    fewer = λ s good. step_fewer rules target s good.0;
    ended_or = ended_or;
    ended_same = λ s. refl;
    ended_folds = refl;
    ended_reasons = refl;
    one_reason = one_reason;
    falls = λ s good. budget-falls rules target faces s good.0 good.1;
  }

  -- ---- true after every step

  -- sound
  pub walk-sound : (n : ℕ) (s : State D) → Sound s → Sound (walk (plain_machine rules target) n s)
  walk-sound = machines.walk-keeps (plain_machine rules target) (λ s. Sound s) (step-sound rules target)

  -- and with as many points
  pub walk-points : (n : ℕ) (s : State D) → length (walk (plain_machine rules target) n s).mesh.points ≡ length s.mesh.points
  walk-points n s =
      machines.walk-keeps (plain_machine rules target) (λ t. length t.mesh.points ≡ length s.mesh.points)
      (λ t e. after-points rules t (answer rules target t) ∙ e) n s refl

  -- each fold has killed a face
  pub walk-fewer :
      (n : ℕ) (s : State D) → Sound s
      → length (fold_list (plain_machine rules target) n s) + faces_left (walk (plain_machine rules target) n s) ≤ faces_left s
  walk-fewer n s sound = machines.walk-fewer (plain-ending (faces_left s)) n s (sound, le_refl _)

  -- ---- the end

  -- after as many steps as the budget, or more, the answer is the end
  pub walk_ends :
      (faces n : ℕ) (s : State D) → Sound s → faces_left s ≤ faces → budget faces s ≤ n
      → answer rules target (walk (plain_machine rules target) n s) ≡ ended
  walk_ends faces n s sound few = machines.walk_ends (plain-ending faces) n s (sound, few)

  -- any budget that is enough gives the same state, the same folds and the same reasons
  pub walk-enough :
      (faces n : ℕ) (s : State D) → Sound s → faces_left s ≤ faces → budget faces s ≤ n
      → (walk (plain_machine rules target) n s ≡ walk (plain_machine rules target) (budget faces s) s)
      × (fold_list (plain_machine rules target) n s ≡ fold_list (plain_machine rules target) (budget faces s) s)
      × (reason_list (plain_machine rules target) n s ≡ reason_list (plain_machine rules target) (budget faces s) s)
  unfolding fold_of reason_of
  walk-enough faces n s sound few enough = (
    machines.walk-enough (plain-ending faces) n s (sound, few) enough,
    machines.collected-enough (plain-ending faces) fold_of refl n s (sound, few) enough,
    machines.collected-enough (plain-ending faces) reason_of refl n s (sound, few) enough,
  )

  -- ---- how many pairs were tried

  -- before its end the walk tries one pair at each step, and folds it or closes it
  pub walk-tries : (n : ℕ) (s : State D) → ((k : ℕ) → k < n → answer rules target (walk (plain_machine rules target) k s) ≢ ended) →
      length (fold_list (plain_machine rules target) n s) + length (reason_list (plain_machine rules target) n s) ≡ n
  unfolding walk collected
  walk-tries zero s on = refl
  walk-tries (suc n) s on =
      let a = answer rules target s in
      let next = machines.step (plain_machine rules target) s in
      omega (
        arith,
        length-append (fold_of a) (fold_list (plain_machine rules target) n next),
        length-append (reason_of a) (reason_list (plain_machine rules target) n next),
        one-tried a (on 0 (omega arith)),
        walk-tries n next (λ k small. on (suc k) (omega arith)),
      )

  -- as long as it folds none, the mesh is as it was, and each pair that it closed is one open pair fewer
  pub walk-unfolded : (n : ℕ) (s : State D) → length (fold_list (plain_machine rules target) n s) ≡ 0 →
      ((walk (plain_machine rules target) n s).mesh ≡ s.mesh)
      × (length (reason_list (plain_machine rules target) n s) + length (walk (plain_machine rules target) n s).«open» ≡ length s.«open»)
  unfolding walk collected
  walk-unfolded zero s none = (refl, omega arith)
  walk-unfolded (suc n) s none =
      let a = answer rules target s in
      let next = machines.step (plain_machine rules target) s in
      let folds = length-append (fold_of a) (fold_list (plain_machine rules target) n next) in
      let here = one-closed rules s a (answer-told rules target s) (omega (arith, folds, none)) in
      let rest = walk-unfolded n next (omega (arith, folds, none)) in
      (rest.0 ∙ here.0, omega (arith, length-append (reason_of a) (reason_list (plain_machine rules target) n next), here.1, rest.1))
