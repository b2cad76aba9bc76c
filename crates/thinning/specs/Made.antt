-- What the public entry states: the outcome of the input, and, where the heap is asked for, that a heap walk made it.
use Rattle.std.specs.Prelude.{◌≡◌, List, ℕ, Float, Ok}
use Rattle.meaning.specs.declared.Answer.{Answer}
use Rattle.meaning.specs.declared.Task.TheVariants.{Admitted}
use Rattle.meaning.specs.Input.{Input, points_in, faces_in}
use Rattle.meaning.specs.Answers.{verdict_of}
use Rattle.meaning.specs.Call.{Lent, Leaves, Thinned}
use Rattle.walking.specs.declared.Came.{Came}
use Rattle.walking.specs.declared.Engine.{Engine}
use Rattle.walking.specs.Clauses.{LaidAndWalked}
use Rattle.thinning.specs.Clauses.{outcome_in}

-- The mesh was laid out in the lent work memory and walked there by an engine, by the heap as a chain of steps on its queue, and what is answered and
-- written is read off the memory as that walk left it.
pub record MadeBy (engine : Engine) (i : Input) (before after : Lent) (r : Answer) : Type 0 where
  pub u32s : List ℕ
  pub f32s : List Float
  pub f64s : List Float
  pub came : Came
  pub walked : LaidAndWalked engine i before.u32s before.f32s before.f64s u32s f32s f64s came
  pub answered : Leaves (points_in i) (faces_in i) (outcome_in (faces_in i) came u32s f32s) before after r

-- the whole statement of a call, which is the same for both engines, and how a mesh that is admitted was walked
pub record ThinnedBy (engine : Engine) (i : Input) (before after : Lent) (folds folds' : List ℕ) (r : Answer) : Type 0 where
  pub thinned : Thinned i before after folds folds' r
  pub made : verdict_of i ≡ Ok Admitted → MadeBy engine i before after r
