-- Coordinates that are finite and at most the bound in size.
use Rattle.std.specs.Prelude.{ℕ, ◌≡◌, Bool, true, false, not, ◌&&◌, pos, Float}
use Rattle.std.specs.Float.{fin}
use Rattle.lists.specs.Lists.{every}
use Rattle.geometry.specs.declared.Point.{Point}
use Rattle.placement.specs.declared.pair.Vertex.{Vertex}
use Rattle.walk.specs.Faces.{Mesh}
use Rattle.meaning.specs.Answers.{bad_coordinate}

-- a coordinate that 7 lets pass: finite, and at most the bound in size
abbrev pub small : Float → Float → Bool
small bound x = not (bad_coordinate bound x)

-- every part of a point
abbrev pub small_point : Float → Point → Bool
small_point bound p = small bound p.x && small bound p.y && small bound p.z

-- the same of a point with all that it carries
abbrev pub small_vertex : Float → Vertex → Bool
small_vertex bound v = small_point bound v.point

-- every point of a mesh, removed ones included
abbrev pub SmallMesh : Float → Mesh Vertex → Type 0
SmallMesh bound m = every (small_vertex bound) m.points ≡ true

-- the bound 2^b
abbrev pub power : ℕ → Float
power b = fin false 1 (pos b)
