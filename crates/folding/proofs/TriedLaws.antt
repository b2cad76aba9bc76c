-- A fold that is tried: the faces around its points are listed, the test is asked, and the fold is made where the test passes.
-- Assumes nothing.
use Prim.Native.Nat.{ℕ, ◌<◌, ◌+◌}
use native.Mathlib.Omega.{arith}
use mathlib.Core.Path.{◌≡◌, refl, sym, ap₂, subst, ◌∙◌, ap}
use mathlib.Core.Logic.{◌≢◌}
use mathlib.Core.List.{List}
use lib.Ieee.{Float}
use Rattle.placement.specs.declared.Fold.{Fold}
use Rattle.placement.specs.Pairs.{pair_place}
use Rattle.walk.specs.declared.Reason.{Reason}
use Rattle.std.specs.Prelude.{⊤, Result, Ok, Err, Option}
use Rattle.walk.specs.FoldTest.{fold_test}
use Rattle.walk.specs.Pairs.{pair_of}
use Rattle.meaning.specs.Arithmetic.{rules_of}
use Rattle.memory.specs.Points.{vertex_at, mesh_of}
use Rattle.memory.proofs.MeshLaws.{vertex-but}
use Rattle.mesh.specs.Clauses.Chains.{Tidy}
use Rattle.mesh.proofs.TidyLaws.{tidy-but}
use Rattle.ring.specs.declared.Ring.{Ring}
use Rattle.ring.specs.Clauses.Marking.{Around}
use Rattle.ring.specs.Clauses.Rings.{RingGathered}
use Rattle.foldtest.specs.Clauses.Allowed.{tested_at}
use Rattle.foldtest.proofs.AllowedLaws.{tested-is}
use Rattle.folding.specs.Clauses.Folds.{MeshFolded, FoldTried}
use lib.ListN.{length}
use Rattle.placement.specs.declared.pair.Vertex.{Vertex}
use Rattle.walk.specs.Faces.{Mesh}
use Rattle.walk.specs.Fold.{folded_faces, folded_mesh}
use Rattle.walk.proofs.FoldLaws.{fold-exact}
use Rattle.memory.specs.Memory.{live_faces}

module _ {v f : ℕ} {w w₁ : List ℕ} (fold : Fold) {ring : Ring} (tidy : Tidy v f w) (points : (fold.keep < v) × (fold.remove < v) × (fold.keep ≢ fold.remove))
    (done : RingGathered v f w fold.keep fold.remove w₁ ring) where
  -- listing leaves the memory tidy
  pub listed-tidy : Tidy v f w₁
  listed-tidy = tidy-but (omega arith) done.but tidy

  -- the two lists, as the test asks for them
  pub listed-around : Around v f w₁ fold.keep ring.near ring.nears × Around v f w₁ fold.remove ring.far ring.fars
  listed-around =
      let listed = done.ringed in (
        record { above = listed.past_pairs; within = omega (arith, listed.one_after_other, listed.within); gathered = listed.around_keep },
        record { above = omega (arith, listed.past_pairs, listed.one_after_other); within = listed.within; gathered = listed.around_remove },
      )

  module _ (p q : List Float) (limit : Option Float) (bound : Float)
      (there : fold.place ≡ pair_place bound (vertex_at v f w p q fold.keep) (vertex_at v f w p q fold.remove)) where
    -- and each point what it was
    listed-place : fold.place ≡ pair_place bound (vertex_at v f w₁ p q fold.keep) (vertex_at v f w₁ p q fold.remove)
    listed-place =
        there
        ∙ sym (ap₂ (pair_place bound)
        (vertex-but v f p q done.but (omega arith) fold.keep points.0)
        (vertex-but v f p q done.but (omega arith) fold.remove points.1))

    -- what the test answers, in the words of the definition
    told : {t : Result ⊤ Reason} → t ≡ tested_at v f w₁ p fold.keep fold.remove fold.place →
        fold_test (rules_of limit bound) (mesh_of v f w₁ p q) (pair_of fold.keep fold.remove) ≡ t
    told is = sym (is ∙ tested-is limit bound v f w₁ p q points.0 points.1 listed-place listed-tidy.faces_proper)

    -- it passes, and the fold is made
    pub fold-made : {t : Result ⊤ Reason} {w' : List ℕ} {p' q' : List Float} {gone : ℕ} → t ≡ tested_at v f w₁ p fold.keep fold.remove fold.place → t ≡ Ok tt →
        ((limit : Option Float) (bound : Float) → fold.place ≡ pair_place bound (vertex_at v f w₁ p q fold.keep) (vertex_at v f w₁ p q fold.remove) →
        MeshFolded v f limit bound w₁ p q fold.keep fold.remove w' p' q' gone) →
        FoldTried v f limit bound w p q fold.keep fold.remove w' p' q' (Ok gone)
    fold-made is passes fold-mesh = record { listed = w₁; but = done.but; came = (told is ∙ passes, fold-mesh limit bound listed-place) }

    -- it doesn't, and no cell changes
    pub fold-refused : {t : Result ⊤ Reason} {w' : List ℕ} {reason : Reason} → t ≡ tested_at v f w₁ p fold.keep fold.remove fold.place → t ≡ Err reason → w' ≡ w₁ →
        FoldTried v f limit bound w p q fold.keep fold.remove w' p q (Err reason)
    fold-refused is fails same = record { listed = w₁; but = done.but; came = (told is ∙ fails, same, refl, refl) }

-- what it came to, by the case that it is
pub tried-as : {v f : ℕ} {limit : Option Float} {bound : Float} {w : List ℕ} {p q : List Float} {keep remove : ℕ} {w' : List ℕ} {p' q' : List Float} {r r' : Result ℕ Reason} → r ≡ r' →
    FoldTried v f limit bound w p q keep remove w' p' q' r → FoldTried v f limit bound w p q keep remove w' p' q' r'
tried-as {v} {f} {limit} {bound} {w} {p} {q} {keep} {remove} {w'} {p'} {q'} same tried = subst (FoldTried v f limit bound w p q keep remove w' p' q') same tried

-- the faces that are gone and those that are left are the faces before
module _ {v f : ℕ} {limit : Option Float} {bound : Float} {w : List ℕ} {p q : List Float} {keep remove : ℕ} {w' : List ℕ} {p' q' : List Float} {gone : ℕ}
    (fold : MeshFolded v f limit bound w p q keep remove w' p' q' gone) where
  folded-faces : live_faces f w' ≡ folded_faces (live_faces f w) (pair_of keep remove)
  unfolding mesh_of folded_mesh
  folded-faces = ap (λ (m : Mesh Vertex). m.faces) fold.same_mesh

  pub folded-live : length (live_faces f w') + gone ≡ length (live_faces f w)
  folded-live = omega (arith, fold-exact (live_faces f w) (pair_of keep remove), ap length folded-faces, fold.counted)
