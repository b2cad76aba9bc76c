-- What the stages of a call ask and leave.
use Rattle.std.specs.Prelude.{ℕ, ◌*◌, ◌≤◌, ◌≡◌, List, [], true, ◌&&◌, cond, ltb, eqb, length, Float}
use Rattle.geometry.specs.Constants.{nought}
use Rattle.lists.specs.Frames.{But}
use Rattle.lists.specs.Lists.{overlaid}
use Rattle.walk.specs.Output.{used, renumbered, numbers_of}
use Rattle.memory.specs.Layout.{marks_from, stamps_from, u32s_needed, f32s_needed, f64s_needed}
use Rattle.memory.specs.Memory.{live_faces}
use Rattle.memory.specs.Points.{parts_of}
use Rattle.mesh.specs.Clauses.Chains.{Tidy}
use Rattle.meaning.specs.declared.Answer.{Answer}
use Rattle.meaning.specs.Outcome.{Outcome, stuck_answer}
use Rattle.walk.specs.Closings.{none_closed}
use Rattle.walk.specs.declared.Closings.{Closings}
use Rattle.meaning.specs.Call.{Lent, left_as}
use Rattle.walking.specs.declared.Came.{Came}
use Rattle.walking.specs.Clauses.{Working}

-- ---- what they ask

-- three numbers to a point and to a face, outputs that they fit in, and work memory for them
pub record Measured (v f : ℕ) (points : List Float) (faces : List ℕ) (before : Lent) : Type 0 where
  pub points_by_three : length points ≡ 3 * v
  pub faces_by_three : length faces ≡ 3 * f
  pub points_fit : 3 * v ≤ length before.points
  pub faces_fit : 3 * f ≤ length before.faces
  pub working : Working v f before.u32s before.f32s before.f64s

-- a mesh in memory that may be written, with what its walk came to
pub record Standing (v f : ℕ) (came : Came) (before : Lent) : Type 0 where
  pub tidy : Tidy v f before.u32s
  pub working : Working v f before.u32s before.f32s before.f64s
  pub points_fit : 3 * v ≤ length before.points
  pub faces_fit : 3 * f ≤ length before.faces
  pub fixed_few : came.fixed ≤ v
  pub folds_few : came.folds ≤ f

-- ---- what they leave

-- the mesh copied unchanged
abbrev pub copy_of : ℕ → ℕ → List Float → List ℕ → Outcome
copy_of v f points faces =
    record { answer = record { number = 0; place = 0; points = v; faces = f; folds = 0; closed = none_closed }; points = points; faces = faces; worked = true }

-- the stated part of the work memory all zero, and the rest as it came
pub record Zeroed (v f : ℕ) (u : List ℕ) (p q : List Float) (u' : List ℕ) (p' q' : List Float) : Type 0 where
  pub u32s : u' ≡ left_as true (u32s_needed v f) 0 u
  pub f32s : p' ≡ left_as true (f32s_needed v f) nought p
  pub f64s : q' ≡ left_as true (f64s_needed v f) nought q

-- the outcome where the walk is stuck: nothing is written
abbrev pub stuck_outcome : ℕ → Closings → Outcome
stuck_outcome fixed closed = record { answer = stuck_answer fixed closed; points = []; faces = []; worked = true }

-- the outcome of the mesh that stands in memory: the live faces in face order, points numbered by first use
abbrev pub thinned_in : ℕ → ℕ → Closings → List ℕ → List Float → Outcome
thinned_in f folds closed u p =
    let faces = live_faces f u in
    record {
      answer = record { number = 0; place = 0; points = length (used [] faces); faces = length faces; folds = folds; closed = closed };
      points = parts_of p (used [] faces);
      faces = numbers_of (renumbered faces);
      worked = true;
    }

-- stuck where no fold was made and there are more faces than the target
abbrev pub outcome_in : ℕ → Came → List ℕ → List Float → Outcome
outcome_in f came u p = cond (eqb came.folds 0 && ltb came.target f) (stuck_outcome came.fixed came.closed) (thinned_in f came.folds came.closed u p)

-- an outcome is answered and written, and of the work memory at most the marks have changed
pub record Finished (v f : ℕ) (o : Outcome)
    (u : List ℕ) (points : List Float) (faces : List ℕ) (u' : List ℕ) (points' : List Float) (faces' : List ℕ) (r : Answer) : Type 0 where
  pub but : But (marks_from v f) (stamps_from v f) u u'
  pub answered : r ≡ o.answer
  pub points_written : points' ≡ overlaid o.points points
  pub faces_written : faces' ≡ overlaid o.faces faces
