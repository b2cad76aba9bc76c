-- What writing the output leaves: the outputs changed only in the part used, and no mark but where the new numbers were kept.
use Rattle.std.specs.Prelude.{ℕ, ◌≡◌, List, [], length, Float}
use Rattle.walk.specs.Output.{used, renumbered, numbers_of}
use Rattle.memory.specs.Memory.{live_faces}
use Rattle.lists.specs.Frames.{But}
use Rattle.lists.specs.Lists.{overlaid}
use Rattle.memory.specs.Points.{parts_of}
use Rattle.output.specs.declared.Counts.{Counts}
use Rattle.memory.specs.Layout.{marks_from, stamps_from}

-- live faces in face order, points numbered by first use
pub record MeshWritten (v f : ℕ) (w : List ℕ) (p : List Float) (points : List Float) (faces : List ℕ) (w' : List ℕ) (points' : List Float) (faces' : List ℕ) (r : Counts) : Type 0 where
  pub but : But (marks_from v f) (stamps_from v f) w w'
  pub points_written : points' ≡ overlaid (parts_of p (used [] (live_faces f w))) points
  pub faces_written : faces' ≡ overlaid (numbers_of (renumbered (live_faces f w))) faces
  pub points_counted : r.points ≡ length (used [] (live_faces f w))
  pub faces_counted : r.faces ≡ length (live_faces f w)
