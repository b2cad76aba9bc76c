-- What a fold does (document 01, "A fold moves keep").
use Rattle.std.specs.Prelude.{ℕ, List, [], ◌∷◌, map, not}
use Rattle.std.proofs.Math.ListN.{set}
use Rattle.lists.specs.Lists.{those, beside}
use Rattle.walk.specs.declared.Face.{Face}
use Rattle.walk.specs.declared.Pair.{Pair}
use Rattle.walk.specs.Faces.{both, renamed_face, Rules, Mesh, merged_of}

-- the faces after a fold: those that hold both are gone, and in the rest remove's number is keep's
unfoldable pub folded_faces : List Face → Pair → List Face
unfolding those
folded_faces faces p = map (renamed_face p.keep p.remove) (those (λ f. not (both p.keep p.remove f)) faces)

-- the numbers of the faces that are left
unfoldable pub left_numbers : List Face → List ℕ → Pair → List ℕ
unfolding beside
left_numbers faces numbers p = beside (λ f. not (both p.keep p.remove f)) faces numbers

-- a face with the points of some folds joined, one fold after the other
unfoldable pub renamed_by : List Pair → Face → Face
renamed_by [] f = f
renamed_by (p ∷ ps) f = renamed_by ps (renamed_face p.keep p.remove f)

module _ {D : Type 0} (rules : Rules D) where
  -- the mesh after a fold
  unfoldable pub folded_mesh : Mesh D → Pair → Mesh D
  unfolding folded_faces left_numbers
  folded_mesh m p =
      record {
        points = set m.points p.keep (merged_of rules m p);
        faces = folded_faces m.faces p;
        numbers = left_numbers m.faces m.numbers p;
      }
