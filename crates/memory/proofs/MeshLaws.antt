-- The mesh that the memory stands for: what it says of each point, what storing one point does to it, and what of the u32 memory it hangs on.
-- Assumes nothing.
use Prim.Native.Nat.{ℕ, ◌+◌, ◌*◌, ◌≤◌, ◌<◌}
use native.Mathlib.Omega.{arith}
use mathlib.Core.Path.{◌≡◌}
use mathlib.Core.List.{List, map}
use lib.Ieee.{Float}
use lib.ListN.{length, get_or, set}
use Rattle.geometry.specs.declared.Point.{Point}
use Rattle.geometry.specs.declared.Quadric.{Quadric}
use Rattle.placement.specs.declared.pair.Vertex.{Vertex}
use Rattle.placement.specs.Choices.{kind_of}
use Rattle.walk.specs.declared.Face.{Face}
use Rattle.lists.specs.Lists.{below}
use Rattle.lists.specs.Frames.{But}
use Rattle.walk.specs.Faces.{face_at, Mesh}
use Rattle.memory.specs.Memory.{kind, lives, live_faces, live_numbers}
use Rattle.memory.specs.Layout.{kinds_from, marks_from}
use Rattle.memory.specs.Points.{vertex_at, with_point, with_quadric, mesh_of}
use Rattle.memory.proofs.PointLaws.{point-stored, quadric-stored}
use Rattle.lists.proofs.BelowLaws.{length-each, get_d-each, each_same, each-moved, kept_same, those-same-below}
use Rattle.memory.proofs.FrameLaws.{lives-but, face-but}

-- two meshes with the same points and the same faces, under the same numbers
pub mesh-of-parts : (points points' : List Vertex) (faces faces' : List Face) (numbers numbers' : List ℕ) →
    points ≡ points' → faces ≡ faces' → numbers ≡ numbers' →
    ◌≡◌ {A = Mesh Vertex} (record { points = points; faces = faces; numbers = numbers }) (record { points = points'; faces = faces'; numbers = numbers' })
mesh-of-parts points points' faces faces' numbers numbers' e d n = rw (e, d, n)

module _ (v f : ℕ) (w : List ℕ) (p q : List Float) where
  -- the mesh has v points
  pub mesh-length : length (mesh_of v f w p q).points ≡ v
  unfolding mesh_of
  mesh-length = length-each (vertex_at v f w p q) v

  -- each is what the memory has of it
  pub mesh-point : (x : ℕ) (d : Vertex) → x < v → get_or (mesh_of v f w p q).points x d ≡ vertex_at v f w p q x
  unfolding mesh_of
  mesh-point x d h = get_d-each (vertex_at v f w p q) v x d h

  -- storing a point and a quadric at keep changes what keep carries, and no other
  pub mesh-moved : (keep : ℕ) (a : Point) (b : Quadric) → keep < v → 3 * v ≤ length p → 10 * v ≤ length q →
      map (vertex_at v f w (with_point p keep a) (with_quadric q keep b)) (below v)
      ≡ set (map (vertex_at v f w p q) (below v)) keep (record { point = a; quadric = b; kind = kind_of (kind v f w keep) })
  mesh-moved keep a b here p-long q-long =
      let at_p = point-stored p keep a in
      let at-q = quadric-stored q keep b in
      let moved = vertex_at v f w (with_point p keep a) (with_quadric q keep b) in
      rw (at_p.back (omega arith), at-q.back (omega arith)) at
      (each-moved (vertex_at v f w p q) moved v keep here (λ x other. rw (at_p.other x other, at-q.other x other)))

-- the mesh hangs on the u32 memory only through the kinds of the v points and the live faces with their numbers
pub mesh-same : (v f : ℕ) (w w' : List ℕ) (p q : List Float) →
    ((x : ℕ) → x < v → kind v f w' x ≡ kind v f w x) → live_faces f w' ≡ live_faces f w → live_numbers f w' ≡ live_numbers f w →
    mesh_of v f w' p q ≡ mesh_of v f w p q
unfolding mesh_of
mesh-same v f w w' p q kinds faces numbers =
    mesh-of-parts _ _ _ _ _ _ (each_same (vertex_at v f w p q) (vertex_at v f w' p q) v (λ x h. rw (kinds x h))) faces numbers

-- a change above the flags leaves the numbers of the live faces
pub live-numbers-but : (f : ℕ) {lo hi : ℕ} {w w' : List ℕ} → But lo hi w w' → 4 * f ≤ lo → live_numbers f w' ≡ live_numbers f w
live-numbers-but f {lo} {hi} {w} {w'} but above = those-same-below (lives f w') (lives f w) f (lives-but but above)

-- and those on the cells below the marks; so does what a point carries, on its kind
pub vertex-but : (v f : ℕ) {lo hi : ℕ} {w w' : List ℕ} (p q : List Float) → But lo hi w w' → marks_from v f ≤ lo → (x : ℕ) → x < v →
    vertex_at v f w' p q x ≡ vertex_at v f w p q x
vertex-but v f {lo} {hi} {w} {w'} p q but above x l = rw (but.under (kinds_from v f + x) (omega arith))

pub mesh-but : (v f : ℕ) {lo hi : ℕ} {w w' : List ℕ} (p q : List Float) → But lo hi w w' → marks_from v f ≤ lo → mesh_of v f w' p q ≡ mesh_of v f w p q
unfolding live_faces
mesh-but v f {lo} {hi} {w} {w'} p q but above =
    mesh-same v f w w' p q (λ x l. but.under (kinds_from v f + x) (omega arith))
    (kept_same (face_at w') (face_at w) (lives f w') (lives f w) f (lives-but but (omega arith)) (face-but but (omega arith)))
    (live-numbers-but f but (omega arith))
