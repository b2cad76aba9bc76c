-- One step: its answer's pair is an open one, the state after it is sound, the open pairs are few, and the budget falls.
-- Assumes nothing.
use Prim.Native.Nat.{ℕ, ◌+◌, ◌*◌, ◌≤◌, ◌<◌}
use mathlib.Core.Path.{◌≡◌, refl, sym, ap, subst}
use mathlib.Core.Logic.{◌≢◌}
use mathlib.Core.List.Memᴰ
use mathlib.Core.List.{List, [], ◌∷◌, Memᴰ}
use mathlib.Core.Bool.{cond}
use native.Mathlib.Nat.{le_trans, mul-le-mul_right}
use native.Mathlib.Omega.{arith}
use lib.Dec.{leb}
use lib.ListN.{length}
use borrow.Author.Tests.{lt-leb}
use Rattle.walk.specs.declared.Face.{Face}
use Rattle.walk.specs.declared.Pair.{Pair}
use Rattle.walk.specs.declared.Reason.{Reason}
use Rattle.std.specs.Prelude.{⊤, Result, Ok, Err}
use Rattle.lists.specs.Lists.{sum, count}
use Rattle.walk.specs.Faces.{both, Rules, Mesh}
use Rattle.walk.specs.Fold.{folded_faces, folded_mesh}
use Rattle.walk.specs.FoldTest.{fold_test}
use Rattle.walk.specs.Walk.{State, StepAnswer, folded, closed, ended, fold_of, reason_of, told_by, budget, tried, chosen, answer, after}
use Rattle.walk.specs.Pairs.{same_pair, least}
use Rattle.walk.specs.Sound.{Sound, joins, held_by}
use Rattle.lists.proofs.TestLaws.{by-test}
use Rattle.lists.proofs.SumLaws.{sum-add, sum-swap, sum-times, sum-le, sum_mono}
use Rattle.lists.proofs.EveryLaws.{length_without}
use Rattle.walk.proofs.FoldLaws.{fold-exact}
use Rattle.walk.proofs.PairLaws.{on_edge, least-one}
use Rattle.walk.proofs.SoundLaws.{is_open_pair, held-differ, held-shared, close-sound, fold-sound, open_shared}

-- ---- the count of the open pairs

module _ {D : Type 0} (s : State D) (sound : Sound s) where
  -- a face holds at most three open pairs: one for each edge
  three-each : (f : Face) → sum (λ q. cond (both q.keep q.remove f) 1 0) s.«open» ≤ 3
  three-each f =
      le_trans
      (sum-le (held_by s) (λ q h. on_edge f q (held-differ s q h)) s.«open» sound.open_held)
      (rw (sum-add (λ q. joined f.a f.b q + joined f.b f.c q) (joined f.c f.a), sum-add (joined f.a f.b) (joined f.b f.c))
      (omega (arith, sound.open_single f.a f.b, sound.open_single f.b f.c, sound.open_single f.c f.a)))
    where
      joined : ℕ → ℕ → Pair → ℕ
      joined x y q = cond (joins x y q) 1 0

  -- each open pair is held by a live face, and each live face holds at most three
  pub open-bound : length s.«open» ≤ 3 * length s.mesh.faces
  open-bound =
      let held = sum-le {g = λ q. 1} (held_by s) (λ q h. held-shared s q h) s.«open» sound.open_held in
      let faces = sum_mono _ (λ f. 3) three-each s.mesh.faces in
      omega (
        arith,
        sum-times 1 s.«open»,
        sum-times 3 s.mesh.faces,
        held,
        faces,
        sum-swap (λ (q : Pair) (f : Face). cond (both q.keep q.remove f) 1 0) s.«open» s.mesh.faces,
      )

-- a fold kills at least one face
pub fold-fewer :
    {D : Type 0} (s : State D) → Sound s → (p : Pair) → is_open_pair s p
    → length (folded_faces s.mesh.faces p) < length s.mesh.faces
fold-fewer s sound p is_open = omega (arith, fold-exact s.mesh.faces p, open_shared s sound p is_open)

-- one face fewer outweighs any number of pairs below a face's weight
weighed :
    {live' live pairs' weight : ℕ} (pairs : ℕ) → live' < live → pairs' < weight → live' * weight + pairs' < live * weight + pairs
weighed {weight} pairs fewer few = omega (arith, mul-le-mul_right weight fewer)

-- ---- what an answer tells

module _ {D : Type 0} (rules : Rules D) where
  -- of the mesh and the open pairs, an answer tells that its pair is one of these, and what the fold test says of it
  abbrev pub Told : Mesh D → List Pair → StepAnswer → Type 0
  Told m ps (folded p) = (0 < count (same_pair p) ps) × (fold_test rules m p ≡ Ok tt)
  Told m ps (closed p reason) = (0 < count (same_pair p) ps) × (fold_test rules m p ≡ Err reason)
  Told m ps ended = Unit {0}

  -- it is so of a pair tried, of the pair chosen, and so of the answer
  told-by : (m : Mesh D) (ps : List Pair) (p : Pair) → 0 < count (same_pair p) ps → (t : Result ⊤ Reason) → fold_test rules m p ≡ t → Told m ps (told_by p t)
  unfolding told_by
  told-by m ps p one (Ok _) e = (one, e)
  told-by m ps p one (Err reason) e = (one, e)

  told_tried : (m : Mesh D) (ps : List Pair) (p : Pair) → 0 < count (same_pair p) ps → Told m ps (tried rules m p)
  unfolding tried
  told_tried m ps p one = told-by m ps p one (fold_test rules m p) refl

  told_chosen : (m : Mesh D) (ps : List Pair) → Told m ps (chosen rules m ps)
  unfolding chosen
  told_chosen m [] = tt
  told_chosen m (p ∷ ps) = told_tried m (p ∷ ps) (least rules m p ps) (least-one rules m p ps)

  pub answer-told : (target : ℕ) (s : State D) → Told s.mesh s.«open» (answer rules target s)
  unfolding answer
  answer-told target s =
      by-test (leb (length s.mesh.faces) target) (λ t. rw t tt) (λ t. rw t (told_chosen s.mesh s.«open»))

  -- said of a folded pair, and of a closed one
  pub answer-folded :
      (target : ℕ) (s : State D) (p : Pair) → answer rules target s ≡ folded p → is_open_pair s p × (fold_test rules s.mesh p ≡ Ok tt)
  answer-folded target s p e = subst (Told s.mesh s.«open») e (answer-told target s)

  pub answer-closed :
      (target : ℕ) (s : State D) (p : Pair) (reason : Reason) → answer rules target s ≡ closed p reason
      → is_open_pair s p × (fold_test rules s.mesh p ≡ Err reason)
  answer-closed target s p reason e = subst (Told s.mesh s.«open») e (answer-told target s)

  -- ---- sound after a step

  -- whatever the answer
  pub told-sound : (s : State D) → Sound s → (a : StepAnswer) → Told s.mesh s.«open» a → Sound (after rules s a)
  unfolding after
  told-sound s sound (folded p) told = fold-sound rules s sound p told.0
  told-sound s sound (closed p reason) told = close-sound rules s sound p reason
  told-sound s sound ended told = sound

  pub step-sound : (target : ℕ) (s : State D) → Sound s → Sound (after rules s (answer rules target s))
  step-sound target s sound = told-sound s sound (answer rules target s) (answer-told target s)

  -- ---- the budget falls

  -- after a fold the open pairs, old and new, are three fewer than three for each face before it
  pub fold-room :
      (s : State D) → Sound s → (p : Pair) → is_open_pair s p
      → length (after rules s (folded p)).«open» + 3 ≤ 3 * length s.mesh.faces
  unfolding after folded_mesh
  fold-room s sound p is_open =
      omega (arith, fold-fewer s sound p is_open, open-bound (after rules s (folded p)) (fold-sound rules s sound p is_open))

  -- a fold takes a whole face off, a closing one pair, so every step before the end lowers the budget
  pub fold-falls :
      (faces : ℕ) (s : State D) → Sound s → length s.mesh.faces ≤ faces → (p : Pair) → is_open_pair s p
      → budget faces (after rules s (folded p)) < budget faces s
  unfolding after folded_mesh budget
  fold-falls faces s sound few p is_open =
      weighed (length s.«open») (fold-fewer s sound p is_open) (omega (arith, fold-room s sound p is_open))

  pub close-falls : (faces : ℕ) (s : State D) (p : Pair) (reason : Reason) → is_open_pair s p → budget faces (after rules s (closed p reason)) < budget faces s
  unfolding after budget
  close-falls faces s p reason is_open = omega (arith, length_without (same_pair p) s.«open» is_open)

  pub budget-falls :
      (target faces : ℕ) (s : State D) → Sound s → length s.mesh.faces ≤ faces → answer rules target s ≢ ended
      → budget faces (after rules s (answer rules target s)) < budget faces s
  budget-falls target faces s sound few = falls (answer rules target s) (answer-told target s)
    where
      falls : (a : StepAnswer) → Told s.mesh s.«open» a → a ≢ ended → budget faces (after rules s a) < budget faces s
      falls (folded p) told not-ended = fold-falls faces s sound few p told.0
      falls (closed p reason) told not-ended = close-falls faces s p reason told.0
      falls ended told not-ended = absurd (not-ended refl)

-- ---- the end

-- a pair that is tried is no end, so no pair was to choose
never-tried : (x : Pair) (t : Result ⊤ Reason) → told_by x t ≡ ended → ⊥
unfolding told_by
never-tried x (Ok _) e = let z : ◌≡◌ {A = ℕ} 0 1 = cc in omega arith
never-tried x (Err reason) e = let z : ◌≡◌ {A = ℕ} 0 1 = cc in omega arith

none-chosen : {D : Type 0} (rules : Rules D) (m : Mesh D) (ps : List Pair) → chosen rules m ps ≡ ended → ps ≡ []
unfolding chosen tried
none-chosen rules m [] e = refl
none-chosen rules m (x ∷ ps) e = absurd (never-tried (least rules m x ps) (fold_test rules m (least rules m x ps)) e)

-- above the target the walk ends only where no pair is open
pub ended-open : {D : Type 0} (rules : Rules D) (target : ℕ) (s : State D) → answer rules target s ≡ ended → target < length s.mesh.faces → s.«open» ≡ []
unfolding answer
ended-open rules target s e above = none-chosen rules s.mesh s.«open» (rw (lt-leb (length s.mesh.faces) target above) at e)

-- a pair that an answer folded is the answer's
pub fold-answer : (a : StepAnswer) (p : Pair) → Memᴰ p (fold_of a) → a ≡ folded p
unfolding fold_of
fold-answer (folded q) p m = ap folded (sym (Memᴰ.eq_of_singleton m))
fold-answer (closed q reason) p m = absurd (Memᴰ.not-nil m)
fold-answer ended p m = absurd (Memᴰ.not-nil m)

-- and the reason that an answer told is the one for which it closed its pair
pub reason-answer : (a : StepAnswer) (reason : Reason) → Memᴰ reason (reason_of a) → (p : Pair) × (a ≡ closed p reason)
unfolding reason_of
reason-answer (folded p) reason m = absurd (Memᴰ.not-nil m)
reason-answer (closed p other) reason m = (p, ap (closed p) (sym (Memᴰ.eq_of_singleton m)))
reason-answer ended reason m = absurd (Memᴰ.not-nil m)
