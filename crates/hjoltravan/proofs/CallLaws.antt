-- A call of the entry, told in five numbers and three, is what the C interface states; and one of the writer, told in three.
-- Assumes nothing.
use Prim.Native.Nat.{ℕ}
use mathlib.Core.Path.{◌≡◌, ap, ◌∙◌}
use mathlib.Core.List.{List}
use lib.Ieee.{Float}
use Rattle.meaning.specs.declared.Answer.{Answer}
use Rattle.meaning.specs.Input.{Input}
use Rattle.meaning.specs.Call.{Lent}
use Rattle.walking.specs.declared.Engine.{Engine}
use Rattle.thinning.specs.Made.{ThinnedBy}
use Rattle.thinning.specs.Told.{five_of, by_reason}
use Rattle.std.specs.Prelude.{Result}
use Rattle.scanwriter.specs.declared.WriteFault.{WriteFault}
use Rattle.scanwriter.specs.Written.{three_of, ScanWritten}
use Rattle.hjoltravan.specs.Calls.{Called, CalledWithFolds, CalledToWrite}

module _ {engine : Engine} {i : Input} {before after : Lent} {folds folds' five closed : List ℕ} where
  -- with the folds
  pub called-with-folds : {r : Answer} → ThinnedBy engine i before after folds folds' r → five ≡ five_of r → closed ≡ by_reason r →
      CalledWithFolds engine i before after folds folds' five closed
  called-with-folds thinned told told_closed =
      let answer = thinned.thinned.answered.answered in
      record { told = told ∙ ap five_of answer; told_closed = told_closed ∙ ap by_reason answer; left = rw answer at thinned }

  -- and without
  pub called : CalledWithFolds engine i before after folds folds' five closed → Called engine i before after five closed
  called done = record { told = done.told; told_closed = done.told_closed; left = done.left.thinned.answered; made = done.left.made }

-- the writer's answer is the one that its statement gives
pub called-to-write : {unit : ℕ} {points : List Float} {faces old new three : List ℕ} {w : Result ℕ WriteFault} → ScanWritten unit points faces old new w → three ≡ three_of w →
    CalledToWrite unit points faces old new three
called-to-write done told = record { told = told ∙ ap three_of done.answered; left = rw done.answered at done }
