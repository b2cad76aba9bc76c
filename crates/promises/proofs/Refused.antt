-- What a refusal leaves: zeros for the mesh, and both outputs as they came; the work memory is untouched exactly on 1 to 9, 12 and 24; and there, and where
-- the mesh is copied, no pair was closed.
-- Assumes nothing.
use Prim.Native.Nat.{ℕ}
use mathlib.Core.Path.{◌≡◌, refl, sym, ap, ◌∙◌}
use mathlib.Core.Logic.{◌≢◌}
use mathlib.Core.List.{[]}
use mathlib.Core.Bool.{Bool, true, false, not, ◌&&◌, ◌||◌, false≢true}
use lib.Dec.{leb, ltb, eqb}
use Rattle.lists.proofs.TestLaws.{by-test}
use Rattle.std.specs.Prelude.{Ok, Err}
use Rattle.meaning.specs.declared.Refusal.{Refusal}
use Rattle.meaning.specs.declared.Task.TheVariants.{Copied, Admitted}
use Rattle.meaning.specs.Input.{Input}
use Rattle.meaning.specs.Answers.{Verdict, verdict_of}
use Rattle.meaning.specs.Outcome.{stuck, fixed_in, Outcome, outcome, outcome_by}
use Rattle.walk.specs.Closings.{none_closed}
use Rattle.promises.specs.Table.{Given, row-1, row-2, row-3, row-4, row-5, row-6, row-24, row-7, row_zero, row-8, row-9, row-12, row-10, row-11, row-0}
use Rattle.promises.proofs.Rows.{verdict-1, verdict-2, verdict-3, verdict-4, verdict-5, verdict-6, verdict-24, verdict-7, verdict-zero, verdict-8, verdict-9, verdict-12, verdict-admitted}
use Rattle.promises.proofs.ExactlyWhen.{exactly-when}

-- ---- the counts and the outputs

-- an outcome with zeros in the last three, that writes nothing
pub record Nothing (o : Outcome) : Type 0 where
  pub no_points : o.answer.points ≡ 0
  pub no_faces : o.answer.faces ≡ 0
  pub no_folds : o.answer.folds ≡ 0
  pub points_kept : o.points ≡ []
  pub faces_kept : o.faces ≡ []

-- by the verdict
nothing-by : (d : Verdict) (i : Input) → (outcome_by d i).answer.number ≢ 0 → Nothing (outcome_by d i)
unfolding outcome_by
nothing-by (Err why) i not-zero = record { no_points = refl; no_faces = refl; no_folds = refl; points_kept = refl; faces_kept = refl }
nothing-by (Ok Copied) i not-zero = absurd (not-zero refl)
nothing-by (Ok Admitted) i not-zero =
    by-test (stuck i)
    (λ t. by-test (ltb 0 (fixed_in i))
    (λ b. rw (t, b) (record { no_points = refl; no_faces = refl; no_folds = refl; points_kept = refl; faces_kept = refl }))
    (λ b. rw (t, b) (record { no_points = refl; no_faces = refl; no_folds = refl; points_kept = refl; faces_kept = refl })))
    (λ t. absurd (not-zero (rw t)))

-- every number but 0 is a refusal
pub refusal-nothing : (i : Input) → (outcome i).answer.number ≢ 0 → Nothing (outcome i)
unfolding outcome
refusal-nothing i = nothing-by (verdict_of i) i

-- ---- the work memory

-- the numbers of the checks before the walk: 1 to 9, 12 and 24
abbrev pub early : ℕ → Bool
early n = (leb 1 n && leb n 9) || (eqb n 12 || eqb n 24)

-- whether it was worked in, by the verdict
worked-by : {d : Verdict} (i : Input) → verdict_of i ≡ d → (outcome i).worked ≡ (outcome_by d i).worked
unfolding outcome
worked-by i e = ap (λ (d : Verdict). (outcome_by d i).worked) e

-- not where it is refused
refused-untouched : {r : Refusal} (i : Input) → verdict_of i ≡ Err r → (outcome i).worked ≡ false
unfolding outcome_by
refused-untouched i e = worked-by i e

-- and where it is copied or walked
copied-worked : (i : Input) → verdict_of i ≡ Ok Copied → (outcome i).worked ≡ true
unfolding outcome_by
copied-worked i e = worked-by i e

admitted-worked : (i : Input) → verdict_of i ≡ Ok Admitted → (outcome i).worked ≡ true
unfolding outcome_by
admitted-worked i e = worked-by i e ∙ by-test (stuck i) (λ t. rw t) (λ t. rw t)

module _ (i : Input) where
  -- so by the row of the table
  row-worked : {n p : ℕ} → Given i n p → (outcome i).worked ≡ not (early n)
  row-worked (row-1 u) = refused-untouched i (verdict-1 i u)
  row-worked (row-2 p l) = refused-untouched i (verdict-2 i p l)
  row-worked (row-3 p s) = refused-untouched i (verdict-3 i p s)
  row-worked (row-4 p e) = refused-untouched i (verdict-4 i p e)
  row-worked (row-5 p b) = refused-untouched i (verdict-5 i p b)
  row-worked (row-6 p b) = refused-untouched i (verdict-6 i p b)
  row-worked (row-24 p b) = refused-untouched i (verdict-24 i p b)
  row-worked (row-7 p f) = refused-untouched i (verdict-7 i p f)
  row-worked (row_zero p z) = copied-worked i (verdict-zero i p z)
  row-worked (row-8 p f o) = refused-untouched i (verdict-8 i p f o)
  row-worked (row-9 p f o d) = refused-untouched i (verdict-9 i p f o)
  row-worked (row-12 p f) = refused-untouched i (verdict-12 i p f)
  row-worked (row-10 p none above least) = admitted-worked i (verdict-admitted i p)
  row-worked (row-11 p none above free) = admitted-worked i (verdict-admitted i p)
  row-worked (row-0 p makes either) = admitted-worked i (verdict-admitted i p)

  -- untouched on the early numbers, and zeroed after 0, 10 and 11
  pub worked-exactly-when : (outcome i).worked ≡ not (early (outcome i).answer.number)
  worked-exactly-when = row-worked ((exactly-when i (outcome i).answer.number (outcome i).answer.place).0 (refl, refl))

-- ---- the pairs closed

-- none where the memory was not worked in
untouched-none : (d : Verdict) (i : Input) → (outcome_by d i).worked ≡ false → (outcome_by d i).answer.closed ≡ none_closed
unfolding outcome_by
untouched-none (Err why) i e = refl
untouched-none (Ok Copied) i e = absurd (false≢true (sym e))
untouched-none (Ok Admitted) i e = by-test (stuck i) (λ t. absurd (false≢true (sym (rw t at e)))) (λ t. absurd (false≢true (sym (rw t at e))))

-- so on the early numbers all three counts are zero
pub early-none : (i : Input) → early (outcome i).answer.number ≡ true → (outcome i).answer.closed ≡ none_closed
unfolding outcome
early-none i is = untouched-none (verdict_of i) i (worked-exactly-when i ∙ ap not is)

-- a number that is not 0, with the memory worked in, is told where the walk is stuck
worked-stuck : (d : Verdict) (i : Input) → (outcome_by d i).answer.number ≢ 0 → (outcome_by d i).worked ≡ true → (d ≡ Ok Admitted) × (stuck i ≡ true)
unfolding outcome_by
worked-stuck (Err why) i other e = absurd (false≢true e)
worked-stuck (Ok Copied) i other e = absurd (other refl)
worked-stuck (Ok Admitted) i other e = by-test (stuck i) (λ t. (refl, t)) (λ t. absurd (other (rw t)))

-- so 10 and 11 are told of an input that is admitted, and whose walk is stuck
pub late-stuck : (i : Input) → early (outcome i).answer.number ≡ false → (outcome i).answer.number ≢ 0 → (verdict_of i ≡ Ok Admitted) × (stuck i ≡ true)
unfolding outcome
late-stuck i late other = worked-stuck (verdict_of i) i other (worked-exactly-when i ∙ ap not late)
