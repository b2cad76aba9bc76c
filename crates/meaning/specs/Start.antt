-- What each point carries at the start (document 01, "Plane": each quadric starts at +0 and faces add in face order; "Border edge"; document 02, wish 2).
use Rattle.std.specs.Prelude.{ℕ, List, [], ◌∷◌, map, Bool, ◌&&◌, cond, eqb, Float}
use Rattle.geometry.specs.declared.Quadric.{Quadric}
use Rattle.geometry.specs.Planes.{plane_of}
use Rattle.geometry.specs.Quadrics.{zero_quadric, of_plane, quadric_sum}
use Rattle.placement.specs.declared.Kind.{Kind}
use Rattle.placement.specs.declared.Kind.TheVariants.{Free, Border, Margin}
use Rattle.placement.specs.declared.pair.Vertex.{Vertex}
use Rattle.placement.specs.Choices.{fixed}
use Rattle.walk.specs.declared.Face.{Face}
use Rattle.lists.specs.Lists.{count, some, below}
use Rattle.walk.specs.Faces.{holds, faces_of, border_point, Mesh}
use Rattle.meaning.specs.Input.{point_at}

-- the quadric of a face's plane
abbrev pub face_quadric : List Float → Face → Quadric
face_quadric points f = of_plane (plane_of (point_at points f.a) (point_at points f.b) (point_at points f.c))

-- a point's quadric with those of the faces of a list that hold it added, in order
unfoldable pub gathered : List Float → ℕ → Quadric → List Face → Quadric
gathered points x q [] = q
gathered points x q (f ∷ fs) = gathered points x (cond (holds x f) (quadric_sum q (face_quadric points f)) q) fs

-- the margin names the point x
abbrev pub in_margin : List ℕ → ℕ → Bool
in_margin margin x = some (eqb x) margin

-- the kind of the point x: a margin point, with preserve on or off; else a border point, where they are preserved; else free
unfoldable pub start_kind : ℕ → List Face → Bool → (margin : List ℕ) → ℕ → Kind
unfolding some border_point
start_kind v faces preserve margin x = cond (in_margin margin x) Margin (cond (preserve && border_point v faces x) Border Free)

-- how many of v points are fixed, used by a face or not
unfoldable pub fixed_count : ℕ → List Face → Bool → (margin : List ℕ) → ℕ
unfolding start_kind below
fixed_count v faces preserve margin = count (λ x. fixed (start_kind v faces preserve margin x)) (below v)

-- all that the point x carries at the start
abbrev pub start_vertex : List Float → List Face → ℕ → Bool → (margin : List ℕ) → ℕ → Vertex
start_vertex points faces v preserve margin x =
    record { point = point_at points x; quadric = gathered points x zero_quadric faces; kind = start_kind v faces preserve margin x }

-- the mesh at the start, of v points and f faces, numbered from 0
unfoldable pub start_mesh : ℕ → ℕ → List Float → List ℕ → Bool → (margin : List ℕ) → Mesh Vertex
unfolding start_kind below
start_mesh v f points faces preserve margin =
    record { points = map (start_vertex points (faces_of f faces) v preserve margin) (below v); faces = faces_of f faces; numbers = below f }
