-- What laying a mesh out in the memory leaves there.
use Rattle.std.specs.Prelude.{ℕ, ◌<◌, ◌≡◌, List, Bool}
use Rattle.placement.specs.Choices.{kind_number}
use Rattle.walk.specs.Faces.{faces_of}
use Rattle.memory.specs.Memory.{live_faces, kind}
use Rattle.lists.specs.Frames.{But}
use Rattle.meaning.specs.Start.{start_kind}
use Rattle.mesh.specs.Clauses.Chains.{Tidy}
use Rattle.memory.specs.Layout.{far_from, kinds_from, stamps_from}

-- the faces are in, all live, and each is listed at its points
pub record Laid (v f : ℕ) (faces w w' : List ℕ) : Type 0 where
  pub but : But 0 (stamps_from v f) w w'
  pub tidy : Tidy v f w'
  pub same_faces : live_faces f w' ≡ faces_of f faces

-- every point has its kind's number
pub record Kinded (v f : ℕ) (preserve : Bool) (margin w w' : List ℕ) : Type 0 where
  pub but : But (kinds_from v f) (far_from v f) w w'
  pub tidy : Tidy v f w'
  pub kinds : (x : ℕ) → x < v → kind v f w' x ≡ kind_number (start_kind v (live_faces f w) preserve margin x)
