-- An outcome has three numbers for each point and for each face that its answer counts.
-- Assumes nothing.
use Prim.Native.Nat.{ℕ, ◌*◌}
use native.Mathlib.Omega.{arith}
use mathlib.Core.Path.{◌≡◌, refl}
use mathlib.Core.List.{[]}
use mathlib.Core.Bool.{Bool, true, false, cond}
use lib.Dec.{ltb}
use lib.ListN.{length}
use Rattle.walk.specs.Output.{used, renumbered}
use Rattle.output.proofs.WritingLaws.{length-numbers, length-renumbered}
use Rattle.std.specs.Prelude.{Ok, Err}
use Rattle.meaning.specs.declared.Task.TheVariants.{Copied, Admitted}
use Rattle.meaning.specs.Input.{Input}
use Rattle.meaning.specs.Answers.{Verdict, verdict_of}
use Rattle.meaning.proofs.PartsLaws.{parts-length}
use Rattle.checks.proofs.VerdictLaws as verdicts
use Rattle.walk.specs.declared.Closings.{Closings}
use Rattle.meaning.specs.Outcome.{Outcome, rules_in, last_mesh, stuck, fixed_in, without_mesh, stuck_answer, thinned_outcome, outcome_by, outcome, closed_walked}

pub record Counted (o : Outcome) : Type 0 where
  pub points : length o.points ≡ 3 * o.answer.points
  pub faces : length o.faces ≡ 3 * o.answer.faces

-- ---- a mesh that was thinned

pub thinned-counted : (i : Input) → Counted (thinned_outcome i)
thinned-counted i =
    let faces = (last_mesh i).faces in
    record {
      points = parts-length (rules_in i) (last_mesh i) (used [] faces);
      faces = omega (arith, length-numbers (renumbered faces), length-renumbered faces);
    }

-- ---- a walk that is stuck

stuck-counted : (fixed : ℕ) (closed : Closings) → Counted (record { answer = stuck_answer fixed closed; points = []; faces = []; worked = true })
stuck-counted fixed closed = by (ltb 0 fixed)
  where
    by : (held : Bool) → Counted (record { answer = cond held (without_mesh 10 fixed closed) (without_mesh 11 0 closed); points = []; faces = []; worked = true })
    by true = record { points = refl; faces = refl }
    by false = record { points = refl; faces = refl }

-- ---- any outcome

by-verdict : (d : Verdict) (i : Input) → verdict_of i ≡ d → Counted (outcome_by d i)
unfolding outcome_by
by-verdict (Err why) i e = record { points = refl; faces = refl }
by-verdict (Ok Copied) i e =
    let sized = (verdicts.copied i e).sized in
    record { points = sized.points_by_three; faces = sized.faces_by_three }
by-verdict (Ok Admitted) i e = by (stuck i)
  where
    by : (held : Bool) → Counted (cond held (record { answer = stuck_answer (fixed_in i) (closed_walked i); points = []; faces = []; worked = true }) (thinned_outcome i))
    by true = stuck-counted (fixed_in i) (closed_walked i)
    by false = thinned-counted i

pub counted : (i : Input) → Counted (outcome i)
unfolding outcome
counted i = by-verdict (verdict_of i) i refl
