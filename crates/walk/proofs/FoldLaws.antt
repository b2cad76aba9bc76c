-- The faces after a fold: how many there are, that they are proper, which pairs they hold, and that remove is gone.
-- Assumes nothing.
use Prim.Native.Nat.{ℕ, ◌+◌, ◌<◌}
use mathlib.Core.Path.{◌≡◌}
use mathlib.Core.Logic.{◌≢◌}
use mathlib.Core.List.{List}
use mathlib.Core.Bool.{Bool, true, not, cond}
use mathlib.Mathlib.Data.Bool.Basic.{and_elim_left, and_elim_right}
use lib.ListN.{length, length-map}
use Rattle.walk.specs.declared.Face.{Face}
use Rattle.walk.specs.declared.Pair.{Pair}
use Rattle.lists.specs.Lists.{every}
use Rattle.walk.specs.Faces.{holds, both, shared, renamed_face, proper}
use Rattle.walk.specs.Fold.{folded_faces}
use Rattle.lists.proofs.TestLaws.{by-test, flag_true}
use Rattle.lists.proofs.SumLaws.{sum-map, sum-those, sum_same, witness}
use Rattle.lists.proofs.EveryLaws.{every-all, every_map, every-those, length-those, count-not}
use Rattle.walk.proofs.FaceLaws.{Four, no-fourth, holds-other, holds-gone, renamed-proper}

-- two points that share a face: a live face that holds both, and passes what every live face passes
pub shared-face :
    (test : Face → Bool) (faces : List Face) (x y : ℕ) → every test faces ≡ true → 0 < shared faces x y
    → (f : Face) × (test f ≡ true) × (holds x f ≡ true) × (holds y f ≡ true)
shared-face test faces x y all h =
    let w = witness test (λ f. cond (both x y f) 1 0) faces all h in
    let b = flag_true (both x y w.0) w.2 in
    (w.0, w.1, and_elim_left (holds x w.0) (holds y w.0) b, and_elim_right (holds x w.0) (holds y w.0) b)

-- a fold kills the faces that hold both, and no other
pub fold-exact :
    (faces : List Face) (p : Pair) → length (folded_faces faces p) + shared faces p.keep p.remove ≡ length faces
unfolding folded_faces
fold-exact faces p =
    rw (length-map, length-those) (count-not (both p.keep p.remove) faces)

-- the faces after a fold are proper
pub folded-proper :
    (v : ℕ) (faces : List Face) (p : Pair) → p.keep < v
    → every (proper v) faces ≡ true → every (proper v) (folded_faces faces p) ≡ true
unfolding folded_faces
folded-proper v faces p k-v all =
    rw every_map
    (every-those (proper v) (λ f. not (both p.keep p.remove f)) (λ f h left. renamed-proper p.keep p.remove v k-v f h left) faces all)

-- a pair apart from the fold is held by as many faces as before
pub folded-shared :
    (faces : List Face) (p : Pair) (x y : ℕ) → Four x y p.keep p.remove
    → shared (folded_faces faces p) x y ≡ shared faces x y
unfolding folded_faces
folded-shared faces p x y four = rw (sum-map, sum-those) (sum_same _ _ each faces)
  where
    each :
        (f : Face)
        → ◌≡◌ {A = ℕ}
        (cond (not (both p.keep p.remove f)) (cond (both x y (renamed_face p.keep p.remove f)) 1 0) 0)
        (cond (both x y f) 1 0)
    each f =
        by-test (both p.keep p.remove f)
        (λ t. rw (t, no-fourth x y p.keep p.remove four f t))
        (λ t. rw (
          t,
          holds-other p.keep p.remove x four.x_k four.x_r f,
          holds-other p.keep p.remove y four.y_k four.y_r f,
        ))

-- no face holds remove any more
pub folded-gone :
    (faces : List Face) (p : Pair) → p.keep ≢ p.remove → every (λ f. not (holds p.remove f)) (folded_faces faces p) ≡ true
unfolding folded_faces
folded-gone faces p k_r =
    rw every_map
    (every-all (λ f. not (holds p.remove (renamed_face p.keep p.remove f))) (λ f. rw (holds-gone p.keep p.remove k_r f)) _)
