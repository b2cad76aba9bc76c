-- With keep moved, its quadric added to, and the faces folded, the mesh in memory is the folded mesh.
-- Assumes nothing.
use Prim.Native.Nat.{ℕ, ◌+◌, ◌*◌, ◌≤◌, ◌<◌}
use native.Mathlib.Omega.{arith}
use mathlib.Core.Path.{◌≡◌, sym, ap, ap₂, ◌∙◌}
use mathlib.Core.List.{List, map}
use lib.Ieee.{Float}
use lib.ListN.{length, set}
use Rattle.std.specs.Prelude.{Option}
use Rattle.geometry.specs.declared.Point.{Point}
use Rattle.geometry.specs.Quadrics.{quadric_sum}
use Rattle.placement.specs.declared.pair.Vertex.{Vertex}
use Rattle.placement.specs.Choices.{kind_of}
use Rattle.placement.specs.Pairs.{pair_place, pair_quadric}
use Rattle.lists.specs.Lists.{below}
use Rattle.walk.specs.Fold.{folded_mesh}
use Rattle.memory.specs.Memory.{kind}
use Rattle.memory.specs.Points.{quadric_at, vertex_at, with_point, with_quadric, mesh_of}
use Rattle.meaning.specs.Arithmetic.{rules_of, merged_vertex}
use Rattle.memory.proofs.PointLaws.{point-stored, quadric-stored}
use Rattle.lists.proofs.BelowLaws.{each_same}
use Rattle.memory.proofs.MeshLaws.{mesh-of-parts, mesh-point, mesh-moved}
use Rattle.folding.specs.Clauses.Folds.{FacesFolded, MeshFolded}
use Rattle.memory.specs.Layout.{kinds_from}

module _ {v f keep remove gone : ℕ} {w w' : List ℕ} (p q : List Float) (keep-v : keep < v) (remove-v : remove < v)
    (p-long : 3 * v ≤ length p) (q-long : 10 * v ≤ length q) (h : FacesFolded v f w keep remove w' gone)
    (place : Point) (limit : Option Float) (bound : Float)
    (placed : place ≡ pair_place bound (vertex_at v f w p q keep) (vertex_at v f w p q remove)) where
  -- what keep carries is what the two carried, merged
  merged : ◌≡◌ {A = Vertex}
      (record { point = place; quadric = quadric_sum (quadric_at q keep) (quadric_at q remove); kind = kind_of (kind v f w keep) })
      (merged_vertex bound (vertex_at v f w p q keep) (vertex_at v f w p q remove))
  unfolding merged_vertex pair_quadric
  merged = rw placed

  pub mesh-folded : {p' q' : List Float} → p' ≡ with_point p keep place → q' ≡ with_quadric q keep (quadric_sum (quadric_at q keep) (quadric_at q remove)) →
      MeshFolded v f limit bound w p q keep remove w' p' q' gone
  unfolding mesh_of folded_mesh rules_of
  mesh-folded {p'} {q'} move add = record {
    but = h.but;
    tidy = h.tidy;
    same_mesh =
        rw (move, add)
        (mesh-of-parts _ _ _ _ _ _
        (each_same (vertex_at v f w (with_point p keep place) (with_quadric q keep (quadric_sum (quadric_at q keep) (quadric_at q remove)))) _ v
        (λ x l. rw (h.but.over (kinds_from v f + x) (omega arith)))
        ∙ mesh-moved v f w p q keep place (quadric_sum (quadric_at q keep) (quadric_at q remove)) keep-v p-long q-long
        ∙ ap (set (map (vertex_at v f w p q) (below v)) keep)
        (merged ∙ sym (ap₂ (merged_vertex bound) (mesh-point v f w p q keep _ keep-v) (mesh-point v f w p q remove _ remove-v))))
        h.same_faces h.same_numbers);
    counted = h.counted;
    same_length_p = rw move (point-stored p keep place).same_length;
    same_length_q = rw add (quadric-stored q keep (quadric_sum (quadric_at q keep) (quadric_at q remove))).same_length;
    rest_p = rw move ((point-stored p keep place).rest v keep-v);
    rest_q = rw add ((quadric-stored q keep (quadric_sum (quadric_at q keep) (quadric_at q remove))).rest v keep-v);
  }
