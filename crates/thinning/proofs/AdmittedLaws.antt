-- An admitted call: what its last stage asks, and what the stages leave is what document 01 says of the input.
-- Assumes nothing.
use Prim.Native.Nat.{ℕ, ◌*◌, ◌≤◌}
use native.Mathlib.Omega.{arith}
use mathlib.Core.Path.{◌≡◌, refl, ◌∙◌}
use mathlib.Core.List.{List}
use mathlib.Core.Bool.{true}
use lib.Ieee.{Float}
use lib.ListN.{length}
use Rattle.lists.specs.Lists.{overlaid}
use Rattle.lists.proofs.FrameLaws.{but-widen}
use Rattle.plainwalk.specs.Steps.{Within}
use Rattle.meaning.specs.declared.Answer.{Answer}
use Rattle.meaning.specs.declared.Options.{Options}
use Rattle.std.specs.Prelude.{Ok}
use Rattle.meaning.specs.declared.Task.TheVariants.{Admitted}
use Rattle.meaning.specs.Input.{Input, points_in, faces_in}
use Rattle.meaning.specs.Answers.{verdict_of}
use Rattle.meaning.specs.Outcome.{start_of, target_of, last_mesh, folds_walked, closed_walked, Outcome, folds_by, folds_of}
use Rattle.meaning.specs.Call.{Lent, lent, input_of, Leaves}
use Rattle.walking.specs.declared.Came.{Came}
use Rattle.walking.specs.declared.Engine.{Engine}
use Rattle.thinning.specs.Made.{ThinnedBy}
use Rattle.walking.specs.Clauses.{Working, input_walked, MeshWalked}
use Rattle.thinning.specs.Clauses.{Standing, Zeroed, outcome_in, Finished}
use Rattle.walking.proofs.WithinLaws.{working-within}
use Rattle.thinning.proofs.FrameLaws.{zeroed-within}
use Rattle.thinning.proofs.OutcomeLaws.{outcome-is, outcome-worked}

-- ---- the last stage

-- writing the outputs changes no work memory but marks
finished-within : {v f : ℕ} {o : Outcome} {u u' : List ℕ} {points points' : List Float} {faces faces' : List ℕ} {r : Answer} (p q : List Float) →
    Finished v f o u points faces u' points' faces' r → Within v f u p q u' p q
finished-within p q finished = record {
  but = but-widen (omega arith) (omega arith) finished.but;
  same_length_p = refl;
  same_length_q = refl;
  rest_p = refl;
  rest_q = refl;
}

-- so there is still room
pub clear-asked : {v f : ℕ} {o : Outcome} {u u' : List ℕ} {p q points points' : List Float} {faces faces' : List ℕ} {r : Answer} →
    Working v f u p q → Finished v f o u points faces u' points' faces' r → Working v f u' p q
clear-asked {p = p} {q = q} room finished = working-within room (finished-within p q finished)

-- an outcome that works in the memory, answered and written, with the memory zeroed
worked-leaves : {v f : ℕ} (o : Outcome) {points points' : List Float} {faces faces' : List ℕ} {u u' : List ℕ} {p q p' q' : List Float} {r : Answer} → o.worked ≡ true →
    r ≡ o.answer → points' ≡ overlaid o.points points → faces' ≡ overlaid o.faces faces → Zeroed v f u p q u' p' q' →
    Leaves v f o (lent points faces u p q) (lent points' faces' u' p' q') r
worked-leaves o works answer points faces zeroed =
    record {
      answered = answer;
      points_written = points;
      faces_written = faces;
      u32s_left = zeroed.u32s ∙ rw works;
      f32s_left = zeroed.f32s ∙ rw works;
      f64s_left = zeroed.f64s ∙ rw works;
    }

-- answered and cleared
pub left : {v f : ℕ} (came : Came) {w w' u' : List ℕ} {p q p' q' points points' : List Float} {faces faces' : List ℕ} {r : Answer} →
    Finished v f (outcome_in f came w p) w points faces w' points' faces' r → Zeroed v f w' p q u' p' q' →
    Leaves v f (outcome_in f came w p) (lent points faces w p q) (lent points' faces' u' p' q') r
left {f = f} came {w = w} {p = p} {q = q} finished zeroed =
    worked-leaves (outcome_in f came w p) (outcome-worked f came w p) finished.answered finished.points_written finished.faces_written
    (zeroed-within (finished-within p q finished) zeroed)

-- ---- the whole call

-- what the last stage leaves in the memory that the walk has worked in, it leaves in the memory that came
leaves-within : {v f : ℕ} (o : Outcome) {points points' : List Float} {faces faces' : List ℕ} {u w u' : List ℕ} {pu qu p q p' q' : List Float} {r : Answer} → o.worked ≡ true →
    Within v f u pu qu w p q → Leaves v f o (lent points faces w p q) (lent points' faces' u' p' q') r →
    Leaves v f o (lent points faces u pu qu) (lent points' faces' u' p' q') r
leaves-within o works within leaves =
    worked-leaves o works leaves.answered leaves.points_written leaves.faces_written
    (zeroed-within within
    (record { u32s = leaves.u32s_left ∙ rw works; f32s = leaves.f32s_left ∙ rw works; f64s = leaves.f64s_left ∙ rw works }))

-- what the walk came to is the same whatever room there is
pub same-walk : (points : List Float) (faces margin : List ℕ) (options : Options) (before : Lent)
    {engine : Engine} {u u' : List ℕ} {p q p' q' : List Float} {folds folds' : List ℕ} {came : Came} →
    MeshWalked engine (input_walked points faces margin options) u p q u' p' q' folds folds' came →
    MeshWalked engine (input_of points faces margin options before) u p q u' p' q' folds folds' came
unfolding last_mesh folds_walked closed_walked start_of target_of
same-walk points faces margin options before walked = record {
  walked =
      record {
        laid_u32s = walked.walked.laid_u32s;
        laid_f32s = walked.walked.laid_f32s;
        laid_f64s = walked.walked.laid_f64s;
        laid = walked.walked.laid;
        live = walked.walked.live;
        by_engine = walked.walked.by_engine;
      };
  tidy = walked.tidy;
  within = walked.within;
  mesh_at_end = walked.mesh_at_end;
  aim = walked.aim;
  fixed_counted = walked.fixed_counted;
  fixed_few = walked.fixed_few;
  folds_made = walked.folds_made;
  folds_few = walked.folds_few;
  closed_counted = walked.closed_counted;
  folds_listed = walked.folds_listed;
}

module _ (i : Input) {engine : Engine} {points : List Float} {faces : List ℕ} {u w : List ℕ} {pu qu p q : List Float} {folds folds' : List ℕ} {came : Came}
    (walked : MeshWalked engine i u pu qu w p q folds folds' came) where
  -- what the last stage asks
  pub finish-asked : 3 * points_in i ≤ length points → 3 * faces_in i ≤ length faces → Working (points_in i) (faces_in i) u pu qu →
      Standing (points_in i) (faces_in i) came (lent points faces w p q)
  finish-asked points_fit faces_fit room = record {
    tidy = walked.tidy;
    working = working-within room walked.within;
    points_fit = points_fit;
    faces_fit = faces_fit;
    fixed_few = walked.fixed_few;
    folds_few = walked.folds_few;
  }

  -- what the call leaves
  module _ {points' : List Float} {faces' : List ℕ} {u' : List ℕ} {p' q' : List Float} {r : Answer}
      (leaves : Leaves (points_in i) (faces_in i) (outcome_in (faces_in i) came w p) (lent points faces w p q) (lent points' faces' u' p' q') r) where
    as-came : Leaves (points_in i) (faces_in i) (outcome_in (faces_in i) came w p) (lent points faces u pu qu) (lent points' faces' u' p' q') r
    as-came = leaves-within (outcome_in (faces_in i) came w p) (outcome-worked (faces_in i) came w p) walked.within leaves

    pub thinned-by : verdict_of i ≡ Ok Admitted → ThinnedBy engine i (lent points faces u pu qu) (lent points' faces' u' p' q') folds folds' r
    unfolding folds_of folds_by
    thinned-by verdict = record {
      thinned = record { answered = rw (outcome-is i verdict walked) at as-came; folds_listed = walked.folds_listed ∙ rw verdict };
      made = λ told. record { u32s = w; f32s = p; f64s = q; came = came; walked = walked.walked; answered = as-came };
    }
