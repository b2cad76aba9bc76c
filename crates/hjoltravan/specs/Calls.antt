-- What a call through C leaves: the entry's outcome, with the answer as five numbers and the pairs closed as three, and the folds where they are asked for;
-- and the writer's, with the answer as three.
use Rattle.std.specs.Prelude.{ℕ, ◌≡◌, List, length, Float, Ok}
use Rattle.meaning.specs.Input.{Input}
use Rattle.meaning.specs.Outcome.{outcome}
use Rattle.meaning.specs.declared.Task.TheVariants.{Admitted}
use Rattle.meaning.specs.Answers.{verdict_of}
use Rattle.meaning.specs.Call.{Lent, Answered}
use Rattle.walking.specs.declared.Engine.{Engine}
use Rattle.thinning.specs.Made.{MadeBy, ThinnedBy}
use Rattle.thinning.specs.Told.{five_of, by_reason}
use Rattle.scanwriter.specs.Written.{writing_of, three_of, ScanWritten}

-- the outcome of the input, its answer in the five cells and the three, and how a mesh that is admitted was walked
pub record Called (engine : Engine) (i : Input) (before after : Lent) (five closed : List ℕ) : Type 0 where
  pub told : five ≡ five_of (outcome i).answer
  pub told_closed : closed ≡ by_reason (outcome i).answer
  pub left : Answered i before after (outcome i).answer
  pub made : verdict_of i ≡ Ok Admitted → MadeBy engine i before after (outcome i).answer

-- the same, with the list of folds that the entry's statement says
pub record CalledWithFolds (engine : Engine) (i : Input) (before after : Lent) (folds folds' five closed : List ℕ) : Type 0 where
  pub told : five ≡ five_of (outcome i).answer
  pub told_closed : closed ≡ by_reason (outcome i).answer
  pub left : ThinnedBy engine i before after folds folds' (outcome i).answer

-- a file written: number, place and bytes written in the three cells, and every byte of the buffer
pub record CalledToWrite (unit : ℕ) (points : List Float) (faces old new three : List ℕ) : Type 0 where
  pub told : three ≡ three_of (writing_of unit (length points) (length faces) (length old))
  pub left : ScanWritten unit points faces old new (writing_of unit (length points) (length faces) (length old))
