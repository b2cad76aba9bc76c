-- What a caller reads in the outputs.
use Rattle.std.specs.Prelude.{ℕ, List, []}
use Rattle.geometry.specs.declared.Point.{Point}
use Rattle.walk.specs.declared.Face.{Face}
use Rattle.walk.specs.Faces.{faces_of}
use Rattle.walk.specs.Output.{used, place_in}
use Rattle.meaning.specs.Input.{Input, point_at}
use Rattle.meaning.specs.Outcome.{last_mesh, outcome}

-- the new number of a point that is left: points are numbered by first use
abbrev pub new_number : Input → ℕ → ℕ
new_number i x = place_in (used [] (last_mesh i).faces) x

-- the point that is written with a number
abbrev pub written_point : Input → ℕ → Point
written_point i k = point_at (outcome i).points k

-- the faces that are written: as many as the answer says
abbrev pub written_faces : Input → List Face
written_faces i = faces_of (outcome i).answer.faces (outcome i).faces
