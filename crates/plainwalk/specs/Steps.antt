-- One step of a walk in memory, tied to the plain walk's step.
use Rattle.std.specs.Prelude.{ℕ, ◌*◌, ◌≤◌, ◌<◌, ◌≡◌, List, length, drop, Float, Option}
use Rattle.placement.specs.Pairs.{pair_place}
use Rattle.walk.specs.Walk.{StepAnswer, folded, closed, ended, tried, answer, after, SameState}
use Rattle.walk.specs.Pairs.{pair_of}
use Rattle.walk.specs.Sound.{Sound}
use Rattle.memory.specs.Memory.{live_faces}
use Rattle.lists.specs.Frames.{But}
use Rattle.mesh.specs.Clauses.Chains.{Tidy}
use Rattle.memory.specs.Points.{vertex_at, mesh_of}
use Rattle.meaning.specs.Arithmetic.{rules_of}
use Rattle.openpairs.specs.declared.pairs.Least.{Least}
use Rattle.memory.specs.Entries.{pair_at}
use Rattle.openpairs.specs.State.{state_of}
use Rattle.plainwalk.specs.declared.Step.{Step}
use Rattle.plainwalk.specs.declared.Step.TheVariants.{Folded, Closed, Ended}
use Rattle.plainwalk.specs.declared.Stepped.{Stepped}
use Rattle.memory.specs.Layout.{costs_to, folds_from, places_to, work_to}

-- what each case of a step's answer stands for
abbrev pub answer_of : Step → StepAnswer
answer_of (Folded p) = folded p
answer_of (Closed p reason) = closed p reason
answer_of Ended = ended

-- The memory holds a state of the walk: n open pairs, and live is the number of live faces.
pub record Holds (v f : ℕ) (w : List ℕ) (p q : List Float) (n live : ℕ) : Type 0 where
  pub tidy : Tidy v f w
  pub points_long : 3 * v ≤ length p
  pub quadrics_long : 10 * v ≤ length q
  pub sound : Sound (state_of v f w p q n)
  pub counted : live ≡ length (live_faces f w)

-- An open pair that was found: its place in the list, its two points, and where the pair goes.
pub record Found (v f : ℕ) (w : List ℕ) (p q : List Float) (n : ℕ) (bound : Float) (least : Least) : Type 0 where
  pub within : least.at < n
  pub pair_unchanged : pair_at v f w least.at ≡ pair_of least.fold.keep least.fold.remove
  pub place : least.fold.place ≡ pair_place bound (vertex_at v f w p q least.fold.keep) (vertex_at v f w p q least.fold.remove)

-- only some cells changed: those below past of the u32 memory, 3V + 9F of the f32 and 10V + 3F of the f64
pub record WithinTo (past v f : ℕ) (w : List ℕ) (p q : List Float) (w' : List ℕ) (p' q' : List Float) : Type 0 where
  pub but : But 0 past w w'
  pub same_length_p : length p' ≡ length p
  pub same_length_q : length q' ≡ length q
  pub rest_p : drop (places_to v f) p' ≡ drop (places_to v f) p
  pub rest_q : drop (costs_to v f) q' ≡ drop (costs_to v f) q

-- a step's own cells, and a walk's: it writes the folds down too
abbrev pub StepWithin : (v f : ℕ) (w : List ℕ) (p q : List Float) (w' : List ℕ) (p' q' : List Float) → Type 0
StepWithin v f = WithinTo (folds_from v f) v f

abbrev pub Within : (v f : ℕ) (w : List ℕ) (p q : List Float) (w' : List ℕ) (p' q' : List Float) → Type 0
Within v f = WithinTo (work_to v f) v f

-- An answer is given and acted on: the state after it is the plain walk's, the open pairs in any order.
pub record AnswerDone (v f : ℕ) (w : List ℕ) (p q : List Float) (n : ℕ) (limit : Option Float) (bound : Float) (a : StepAnswer) (w' : List ℕ) (p' q' : List Float) (r : Stepped) : Type 0 where
  pub holds : Holds v f w' p' q' r.«open» r.live
  pub within : StepWithin v f w p q w' p' q'
  pub same_answer : answer_of r.step ≡ a
  pub same_state : SameState (state_of v f w' p' q' r.«open») (after (rules_of limit bound) (state_of v f w p q n) a)

-- A pair is folded where the plain walk folds it, and closed where it closes it.
abbrev pub PairTried : (v f : ℕ) (w : List ℕ) (p q : List Float) (n : ℕ) (least : Least) (limit : Option Float) (bound : Float) (w' : List ℕ) (p' q' : List Float) (r : Stepped) → Type 0
PairTried v f w p q n least limit bound w' p' q' r =
    AnswerDone v f w p q n limit bound (tried (rules_of limit bound) (mesh_of v f w p q) (pair_of least.fold.keep least.fold.remove)) w' p' q' r

-- A step: its answer is the plain walk's, and so is the state after it.
abbrev pub StepDone : (v f : ℕ) (w : List ℕ) (p q : List Float) (n : ℕ) (target : ℕ) (limit : Option Float) (bound : Float) (w' : List ℕ) (p' q' : List Float) (r : Stepped) → Type 0
StepDone v f w p q n target limit bound w' p' q' r =
    AnswerDone v f w p q n limit bound (answer (rules_of limit bound) target (state_of v f w p q n)) w' p' q' r
