-- The outcome of an input that is refused, and of one that is copied: neither is walked, so no fold is listed.
-- Assumes nothing.
use Prim.Native.Nat.{ℕ}
use mathlib.Core.Path.{◌≡◌, refl, sym, ap, ◌∙◌}
use mathlib.Core.List.{List, []}
use mathlib.Core.Bool.{false, false≢true}
use lib.ListN.{length}
use lib.Seq.{take-nil}
use Rattle.walk.specs.declared.Pair.{Pair}
use Rattle.meaning.specs.declared.Answer.{Answer}
use Rattle.std.specs.Prelude.{Ok, Err}
use Rattle.meaning.specs.declared.Refusal.{Refusal}
use Rattle.meaning.specs.declared.Task.TheVariants.{Copied}
use Rattle.meaning.specs.Input.{Input, points_in, faces_in}
use Rattle.meaning.specs.Answers.{number_of, place_of, Verdict, verdict_of}
use Rattle.meaning.specs.Outcome.{refusal, outcome_by, outcome, folds_by, folds_of, pair_numbers}
use Rattle.meaning.specs.Call.{Lent, Leaves, listed}
use Rattle.meaning.proofs.VerdictOrder.{admits}
use Rattle.walking.specs.declared.Engine.{Engine}
use Rattle.thinning.specs.Clauses.{copy_of}
use Rattle.thinning.specs.Made.{ThinnedBy}

-- no fold leaves a list as it came
none-listed : (folds : List ℕ) → folds ≡ listed [] folds
unfolding pair_numbers
none-listed folds = rw (take-nil (length folds)) refl

-- the statement, by a verdict that does not admit and whose folds are none: no engine is asked
by-verdict : (engine : Engine) (i : Input) {d : Verdict} {before after : Lent} {folds : List ℕ} {r : Answer} → d ≡ verdict_of i → admits d ≡ false → folds_by d i ≡ [] →
    Leaves (points_in i) (faces_in i) (outcome_by d i) before after r → ThinnedBy engine i before after folds folds r
unfolding outcome folds_of
by-verdict engine i {folds = folds} e not-walked none leaves = record {
  thinned = record {
    answered = rw e at leaves;
    folds_listed = none-listed folds ∙ ap (λ (made : List Pair). listed made folds) (sym none ∙ ap (λ (d : Verdict). folds_by d i) e);
  };
  made = λ told. absurd (false≢true (sym not-walked ∙ ap admits (e ∙ told)));
}

-- refused: nothing is written
pub refused : (engine : Engine) (i : Input) {why : Refusal} {before : Lent} {folds : List ℕ} {r : Answer} → Err why ≡ verdict_of i → r ≡ refusal (number_of why) (place_of why) →
    ThinnedBy engine i before before folds folds r
unfolding outcome_by folds_by
refused engine i e answer =
    by-verdict engine i e refl refl (record { answered = answer; points_written = refl; faces_written = refl; u32s_left = refl; f32s_left = refl; f64s_left = refl })

-- copied
pub copied : (engine : Engine) (i : Input) {before after : Lent} {folds : List ℕ} {r : Answer} → Ok Copied ≡ verdict_of i →
    Leaves (points_in i) (faces_in i) (copy_of (points_in i) (faces_in i) i.points i.faces) before after r → ThinnedBy engine i before after folds folds r
unfolding outcome_by folds_by
copied engine i e leaves = by-verdict engine i e refl refl leaves
