-- The plain walk: the meaning of thinning (document 01, "Pairs, folds, ends"). No heap, no stamps, every cost worked out anew.
use Rattle.std.specs.Prelude.{ℕ, zero, suc, ◌+◌, ◌*◌, ◌≡◌, ◌&&◌, leb, length, ⊤, Result, Ok, Err}
use mathlib.Core.List.{List, [], ◌∷◌, ◌++◌}
use Rattle.std.proofs.Math.Bool.{cond}
use Rattle.lists.specs.Lists.{those, without, SameBag}
use Rattle.walk.specs.declared.Pair.{Pair}
use Rattle.walk.specs.declared.Reason.{Reason}
use Rattle.walk.specs.Faces.{Rules, Mesh}
use Rattle.walk.specs.Pairs.{same_pair, apart, pairs_below, rises, eligible_pair, least, opened}
use Rattle.walk.specs.FoldTest.{fold_test}
use Rattle.walk.specs.Fold.{folded_mesh}

-- ---- a machine, which takes one step after another. Each engine is one, with a state and answers of its own

-- What a state answers, the state after an answer, the pairs that an answer folded, why it closed one, and the answer at the end.
pub record Machine (S A : Type 0) : Type 0 where
  pub answer : S → A
  pub after : S → A → S
  pub fold_of : A → List Pair
  pub reason_of : A → List Reason
  pub ended : A

module _ {S A : Type 0} (machine : Machine S A) where
  -- the walk: the step on a budget
  unfoldable pub walk : ℕ → S → S
  walk zero s = s
  walk (suc n) s = walk n (machine.after s (machine.answer s))

  -- what the answers on the way tell, in order
  unfoldable pub collected : {X : Type 0} → (A → List X) → ℕ → S → List X
  collected tells zero s = []
  collected tells (suc n) s = tells (machine.answer s) ++ collected tells n (machine.after s (machine.answer s))

  -- the pairs folded on the way, and why others were closed
  abbrev pub fold_list : ℕ → S → List Pair
  fold_list = collected machine.fold_of

  abbrev pub reason_list : ℕ → S → List Reason
  reason_list = collected machine.reason_of

-- ---- the state, and one step

-- the mesh and the pairs that are open, each once
pub record State (D : Type 0) : Type 0 where
  pub mesh : Mesh D
  pub «open» : List Pair

-- two states that differ at most in the order in which their open pairs are listed
pub record SameState {D : Type 0} (s t : State D) : Type 0 where
  pub same_mesh : s.mesh ≡ t.mesh
  pub same_open : SameBag s.«open» t.«open»

-- what a step did: a pair that isn't allowed is closed, with the reason
pub data StepAnswer : Type 0 where
  folded : Pair → StepAnswer
  closed : Pair → Reason → StepAnswer
  ended : StepAnswer

-- the pair that an answer folded
unfoldable pub fold_of : StepAnswer → List Pair
fold_of (folded p) = p ∷ []
fold_of (closed p reason) = []
fold_of ended = []

-- why an answer closed a pair
unfoldable pub reason_of : StepAnswer → List Reason
reason_of (folded p) = []
reason_of (closed p reason) = reason ∷ []
reason_of ended = []

-- A budget that is always enough: the live faces times one more than three for each input face, and the open pairs. It falls at every step before the end.
unfoldable pub budget : {D : Type 0} → ℕ → State D → ℕ
budget faces s = length s.mesh.faces * (3 * faces + 1) + length s.«open»

-- a pair by what the fold test says of it
unfoldable pub told_by : Pair → Result ⊤ Reason → StepAnswer
told_by p (Ok _) = folded p
told_by p (Err reason) = closed p reason

module _ {D : Type 0} (rules : Rules D) where
  -- at the start each face edge that runs from a lower to a higher number opens that pair
  unfoldable pub started : Mesh D → State D
  unfolding those pairs_below
  started m = record { mesh = m; «open» = those (λ p. rises m.faces p && eligible_pair rules m p) (pairs_below (length m.points)) }

  -- the least open pair is folded where that is allowed, and closed where it is not
  unfoldable pub tried : Mesh D → Pair → StepAnswer
  unfolding fold_test told_by
  tried m p = told_by p (fold_test rules m p)

  unfoldable pub chosen : Mesh D → List Pair → StepAnswer
  unfolding least tried
  chosen m [] = ended
  chosen m (p ∷ ps) = tried m (least rules m p ps)

  -- the walk ends at the target or with no open pair
  unfoldable pub answer : ℕ → State D → StepAnswer
  unfolding chosen
  answer target s = cond (leb (length s.mesh.faces) target) ended (chosen s.mesh s.«open»)

  -- the state after an answer
  unfoldable pub after : State D → StepAnswer → State D
  unfolding folded_mesh those opened without
  after s (folded p) =
      record { mesh = folded_mesh rules s.mesh p; «open» = those (apart p) s.«open» ++ opened rules (folded_mesh rules s.mesh p) p.keep }
  after s (closed p reason) = record { mesh = s.mesh; «open» = without (same_pair p) s.«open» }
  after s ended = s

  -- the plain walk as a machine: its walk is the meaning of thinning
  abbrev pub plain_machine : ℕ → Machine (State D) StepAnswer
  plain_machine target = record { answer = answer target; after = after; fold_of = fold_of; reason_of = reason_of; ended = ended }
