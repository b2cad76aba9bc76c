-- The layout of the lent f32 and f64 memory: three parts of a point's place from 3x on, ten of its quadric from 10x on. Its kind is in the u32 memory.
use Rattle.std.specs.Prelude.{ℕ, ◌+◌, ◌*◌, List, [], ◌∷◌, ◌++◌, map, get_or, take, drop, Float}
use Rattle.std.proofs.lemmas.List.Edits.{sets}
use Rattle.std.specs.Float.{nan}
use Rattle.geometry.specs.declared.Point.{Point}
use Rattle.geometry.specs.declared.Quadric.{Quadric}
use Rattle.placement.specs.declared.pair.Vertex.{Vertex}
use Rattle.placement.specs.Choices.{kind_of}
use Rattle.lists.specs.Lists.{those, below}
use Rattle.walk.specs.Faces.{Mesh}
use Rattle.memory.specs.Memory.{kind, live_faces, live_numbers}
use Rattle.meaning.specs.Input.{point_at}

-- the quadric whose parts stand from 10x on
abbrev pub quadric_at : List Float → ℕ → Quadric
quadric_at q x =
    record {
      m11 = get_or q (10 * x) nan;
      m12 = get_or q (10 * x + 1) nan;
      m13 = get_or q (10 * x + 2) nan;
      m14 = get_or q (10 * x + 3) nan;
      m22 = get_or q (10 * x + 4) nan;
      m23 = get_or q (10 * x + 5) nan;
      m24 = get_or q (10 * x + 6) nan;
      m33 = get_or q (10 * x + 7) nan;
      m34 = get_or q (10 * x + 8) nan;
      m44 = get_or q (10 * x + 9) nan;
    }

-- the parts of a point and of a quadric, in the order in which they stand
abbrev pub point_parts : Point → List Float
point_parts a = a.x ∷ a.y ∷ a.z ∷ []

abbrev pub quadric_parts : Quadric → List Float
quadric_parts b = b.m11 ∷ b.m12 ∷ b.m13 ∷ b.m14 ∷ b.m22 ∷ b.m23 ∷ b.m24 ∷ b.m33 ∷ b.m34 ∷ b.m44 ∷ []

-- the memory with the parts of a point, or of a quadric, stored one after the other from the first cell of x on
unfoldable pub with_point : List Float → ℕ → Point → List Float
with_point p x a = sets p (3 * x) (point_parts a)

unfoldable pub with_quadric : List Float → ℕ → Quadric → List Float
with_quadric q x b = sets q (10 * x) (quadric_parts b)

-- the memory with the parts of the v points of a list in its first cells
abbrev pub with_points : ℕ → List Float → List Float → List Float
with_points v points p = take (3 * v) points ++ drop (3 * v) p

-- all that the point x carries, with a quadric that is said, and with its own
abbrev pub vertex_with : ℕ → ℕ → List ℕ → List Float → ℕ → Quadric → Vertex
vertex_with v f w p x quadric = record { point = point_at p x; quadric = quadric; kind = kind_of (kind v f w x) }

abbrev pub vertex_at : ℕ → ℕ → List ℕ → List Float → List Float → ℕ → Vertex
vertex_at v f w p q x = vertex_with v f w p x (quadric_at q x)

-- the mesh in memory: the v points, and the live faces in face order, with their numbers
unfoldable pub mesh_of : ℕ → ℕ → List ℕ → List Float → List Float → Mesh Vertex
unfolding below those live_faces
mesh_of v f w p q = record { points = map (vertex_at v f w p q) (below v); faces = live_faces f w; numbers = live_numbers f w }

-- the parts of the points of a list of numbers, three to a point
unfoldable pub parts_of : List Float → List ℕ → List Float
parts_of p [] = []
parts_of p (x ∷ xs) = get_or p (3 * x) nan ∷ get_or p (3 * x + 1) nan ∷ get_or p (3 * x + 2) nan ∷ parts_of p xs
