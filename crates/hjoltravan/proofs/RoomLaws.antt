-- How long the lent buffers are matters only for whether one is too short.
-- Assumes nothing.
use mathlib.Core.Path.{◌≡◌, refl, ap, ◌∙◌}
use mathlib.Core.Bool.{cond}
use lib.ListN.{length}
use Rattle.meaning.specs.declared.Rooms.{Rooms}
use Rattle.std.specs.Prelude.{Ok, Err}
use Rattle.meaning.specs.declared.Refusal.TheVariants.{UnevenList, TooLarge, ShortBuffer, EmptyMesh, BadRatio, BadLimit, UnknownUnit}
use Rattle.meaning.specs.declared.Task.TheVariants.{Copied, Admitted}
use Rattle.meaning.specs.Input.{Input, points_in, faces_in, bound_in}
use Rattle.meaning.specs.Answers.{uneven, large, short, empty, bad_ratio, bad_limit, bad_unit, Verdict, contents_verdict, verdict_of}
use Rattle.meaning.specs.Outcome.{outcome, outcome_by, start_of, target_of, last_mesh, folds_walked, closed_walked}

-- the same input with other buffers
abbrev pub with_rooms : Input → Rooms → Input
with_rooms i rooms = record { points = i.points; faces = i.faces; margin = i.margin; rooms = rooms; options = i.options }

module _ (i : Input) (rooms : Rooms) (alike : short (points_in i) (faces_in i) i.rooms ≡ short (points_in i) (faces_in i) rooms) where
  same-verdict : verdict_of i ≡ verdict_of (with_rooms i rooms)
  unfolding verdict_of
  same-verdict t =
      cond (uneven (length i.points) (length i.faces)) (Err UnevenList)
      (cond (large (points_in i) (faces_in i)) (Err TooLarge)
      (cond (alike t) (Err ShortBuffer)
      (cond (empty (points_in i) (faces_in i)) (Err EmptyMesh)
      (cond (bad_ratio i.options.ratio) (Err BadRatio)
      (cond (bad_limit i.options.limit) (Err BadLimit)
      (cond (bad_unit i.options.unit) (Err UnknownUnit)
      (contents_verdict i.points i.faces i.margin i.options.ratio (bound_in i))))))))

  -- of one verdict, the outcome doesn't look at the rooms
  by-verdict : (v : Verdict) → outcome_by v i ≡ outcome_by v (with_rooms i rooms)
  unfolding outcome_by start_of target_of last_mesh folds_walked closed_walked
  by-verdict (Err why) = refl
  by-verdict (Ok Copied) = refl
  by-verdict (Ok Admitted) = refl

  pub same_outcome : outcome i ≡ outcome (with_rooms i rooms)
  unfolding outcome
  same_outcome = ap (λ (v : Verdict). outcome_by v i) same-verdict ∙ by-verdict (verdict_of (with_rooms i rooms))
