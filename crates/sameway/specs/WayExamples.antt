-- A mesh that runs along each edge at most once each way, a pair in it that is linked, and after its fold an edge with three faces, two of which run the same way.
-- Two of its faces hold both points of the pair and have the same third point.
use Rattle.std.specs.Prelude.{◌≡◌, refl, List, [], ◌∷◌, true, ◌&&◌, leb}
use Rattle.walk.specs.declared.Face.{Face}
use Rattle.lists.specs.Lists.{sum, count, those, every, below}
use Rattle.walk.specs.Faces.{holds, both, shared, runs}
use Rattle.walk.specs.Pairs.{pair_of}
use Rattle.walk.specs.Fold.{folded_faces}
use Rattle.walk.specs.FoldTest.{linked}

-- five faces on six points: 0 and 4 share the point 3 twice, and the point 1 in no face with both
abbrev pub five_faces : List Face
five_faces =
    record { a = 5; b = 1; c = 4 }
    ∷ record { a = 2; b = 0; c = 1 }
    ∷ record { a = 3; b = 4; c = 0 }
    ∷ record { a = 1; b = 5; c = 4 }
    ∷ record { a = 4; b = 3; c = 0 }
    ∷ []

-- what is said of them
pub record FiveFaces : Type 0 where
  pub one_way : every (λ x. every (λ y. leb (count (runs x y) five_faces) 1) (below 6)) (below 6) ≡ true
  pub pair-linked : linked 6 five_faces 0 4 ≡ true
  pub same-third : count (λ f. both 0 4 f && holds 3 f) five_faces ≡ 2
  pub three-faces : shared (folded_faces five_faces (pair_of 0 4)) 0 1 ≡ 3
  pub two-one-way : count (runs 0 1) (folded_faces five_faces (pair_of 0 4)) ≡ 2

-- and it is so
pub five-faces : FiveFaces
unfolding sum those every below folded_faces
five-faces = record { one_way = refl; pair-linked = refl; same-third = refl; three-faces = refl; two-one-way = refl }
