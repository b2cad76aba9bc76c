-- The fold test in memory is the definition's: for any quadrics, length limit and bound for which the place is the pair's.
-- Assumes nothing.
use Prim.Native.Nat.{ℕ, ◌<◌}
use mathlib.Core.Path.{◌≡◌, refl, sym, ap, ap₂, ◌∙◌}
use mathlib.Core.List.{List, [], ◌∷◌}
use mathlib.Core.Bool.{Bool, true, ◌||◌, cond}
use lib.Dec.{eqb}
use lib.Ieee.{Float}
use lib.ListN.{get_or, drop}
use Rattle.std.specs.Prelude.{Option}
use Rattle.geometry.specs.declared.Point.{Point}
use Rattle.placement.specs.declared.pair.Vertex.{Vertex}
use Rattle.placement.specs.Pairs.{pair_place}
use Rattle.walk.specs.declared.Reason.{Reason}
use Rattle.walk.specs.declared.Face.{Face}
use Rattle.lists.specs.Lists.{every}
use Rattle.walk.specs.declared.Reason.TheVariants.{NotLinked}
use Rattle.std.specs.Prelude.{⊤, Result, Err}
use Rattle.walk.specs.Faces.{proper, data_of, merged_of}
use Rattle.walk.specs.FoldTest.{linked, or_else, first_harm, moved_of, face_test, fold_test}
use Rattle.walk.specs.Pairs.{pair_of}
use Rattle.lists.proofs.TestLaws.{by-test}
use Rattle.lists.proofs.EveryLaws.{every-head, every-tail}
use Rattle.walk.proofs.FaceLaws.{corners}
use Rattle.memory.specs.Memory.{live_faces, live_numbers, Proper}
use Rattle.meaning.specs.Input.{point_at}
use Rattle.memory.specs.Points.{vertex_at, mesh_of}
use Rattle.meaning.specs.Arithmetic.{merged_vertex, rules_of}
use Rattle.memory.proofs.MeshLaws.{mesh-length, mesh-point}
use Rattle.foldtest.specs.Clauses.Fair.{moved_at, harm_at}
use Rattle.foldtest.specs.Clauses.Allowed.{tested_at}
use Rattle.mesh.proofs.AroundLaws.{live-proper}

-- two tests that agree of the faces that pass a third one say the same of faces that all pass it
first-agree : (test other : ℕ → Face → Result ⊤ Reason) (ok : Face → Bool) → ((number : ℕ) (face : Face) → ok face ≡ true → test number face ≡ other number face) →
    (faces : List Face) (numbers : List ℕ) → every ok faces ≡ true → first_harm test faces numbers ≡ first_harm other faces numbers
unfolding first_harm
first-agree test other ok same [] numbers all = refl
first-agree test other ok same (f ∷ faces) numbers all =
    ap₂ or_else (same (get_or numbers 0 0) f (every-head ok f faces all)) (first-agree test other ok same faces (drop 1 numbers) (every-tail ok f faces all))

module _ (limit : Option Float) (bound : Float) (v f : ℕ) (w : List ℕ) (p q : List Float) {keep remove : ℕ} {place : Point}
    (keep-below : keep < v) (remove-below : remove < v)
    (there : place ≡ pair_place bound (vertex_at v f w p q keep) (vertex_at v f w p q remove)) where
  -- where the mesh has a point, and where it has it after the fold
  point-is : (x : ℕ) → x < v → (data_of (rules_of limit bound) (mesh_of v f w p q) x).point ≡ point_at p x
  point-is x h = ap (λ (d : Vertex). d.point) (mesh-point v f w p q x (rules_of limit bound).blank h)

  merged-is : (merged_of (rules_of limit bound) (mesh_of v f w p q) (pair_of keep remove)).point ≡ place
  unfolding rules_of merged_vertex
  merged-is =
      ap₂ (λ (a b : Vertex). pair_place bound a b)
      (mesh-point v f w p q keep (rules_of limit bound).blank keep-below)
      (mesh-point v f w p q remove (rules_of limit bound).blank remove-below)
      ∙ sym there

  moved-is : (x : ℕ) → x < v → (moved_of (rules_of limit bound) (mesh_of v f w p q) (pair_of keep remove) x).point ≡ moved_at p keep remove place x
  moved-is x h = by-test (eqb x keep || eqb x remove) (λ t. rw t merged-is) (λ t. rw t (point-is x h))

  -- the same of a face's three points
  harm-is : (number : ℕ) (face : Face) → proper v face ≡ true →
      face_test (rules_of limit bound) (mesh_of v f w p q) (pair_of keep remove) number face ≡ harm_at p keep remove place number face
  unfolding face_test harm_at rules_of
  harm-is number face good =
      let c = corners v face good in
      rw (
        point-is face.a c.a_below,
        point-is face.b c.b_below,
        point-is face.c c.c_below,
        moved-is face.a c.a_below,
        moved-is face.b c.b_below,
        moved-is face.c c.c_below,
      )

  -- so the test is the definition's
  pub tested-is : Proper v f w → tested_at v f w p keep remove place ≡ fold_test (rules_of limit bound) (mesh_of v f w p q) (pair_of keep remove)
  unfolding tested_at fold_test mesh_of
  tested-is good =
      ap₂ (λ (n : ℕ) (t : Result ⊤ Reason). cond (linked n (live_faces f w) keep remove) t (Err NotLinked))
      (sym (mesh-length v f w p q))
      (sym (first-agree (face_test (rules_of limit bound) (mesh_of v f w p q) (pair_of keep remove)) (harm_at p keep remove place) (proper v)
      harm-is (live_faces f w) (live_numbers f w) (live-proper v f w good)))
