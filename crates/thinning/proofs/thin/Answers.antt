-- `thinning::thin` meets its contract: for any input each arm leaves the outcome of what the checks say of it.
-- Assumes nothing.
use mathlib.Core.Path.{◌≡◌, sym, ap, ◌∙◌}
use Rattle.std.specs.Prelude.{Ok}
use Rattle.meaning.specs.declared.Task.TheVariants.{Copied}
use Rattle.meaning.specs.Answers.{verdict_of}
use Rattle.meaning.specs.Call.{lent, input_of}
use Rattle.checks.proofs.VerdictLaws as verdicts
use Rattle.thinning.proofs.SizeLaws.{measured}
use Rattle.thinning.proofs.VerdictLaws as outcomes
use Rattle.thinning.proofs.thin.Goals as goal
use Rattle.thinning.proofs.thin.Goals.{In-Ok-Copied}

-- the verdict, where it is to copy
is-copied : (c : In-Ok-Copied) → Ok Copied ≡ verdict_of (input_of c.args.points.now c.args.faces.now c.args.margin.now c.args.options (lent c.args.out_points.now c.args.out_faces.now c.args.work_u32.now c.args.work_f32.now c.args.work_f64.now))
is-copied c = sym (c.in-Ok-Copied.is ∙ ap Ok c.in-Ok-Copied.field-0-is) ∙ c.verdict_of.ensures

pub copied-requires : goal.copied-requires
copied-requires c =
    measured c.args.points.now c.args.faces.now c.args.margin.now c.args.options (lent c.args.out_points.now c.args.out_faces.now c.args.work_u32.now c.args.work_f32.now c.args.work_f64.now)
    (verdicts.copied _ (sym (is-copied (goal.at.copied-requires c).In-Ok-Copied))).sized

pub returns-in-Err : goal.returns-in-Err
returns-in-Err c = outcomes.refused c.args.engine _ (sym c.in-Err.is ∙ c.verdict_of.ensures) c.refusal.ensures

pub returns-in-Ok-Copied : goal.returns-in-Ok-Copied
returns-in-Ok-Copied c = outcomes.copied c.args.engine _ (is-copied (goal.at.returns-in-Ok-Copied c).In-Ok-Copied) c.copied.ensures
