-- What is said of the live faces, said of their slots; and what a list of the faces around a point says of them.
-- Assumes nothing.
use Prim.Native.Nat.{ℕ}
use mathlib.Core.Path.{◌≡◌, refl, sym, ap, ◌∙◌}
use mathlib.Core.List.{List}
use mathlib.Core.Bool.{Bool, true, false, not, ◌&&◌, ◌||◌, cond}
use lib.Dec.{ltb, eqb}
use Rattle.walk.specs.declared.Face.{Face}
use Rattle.lists.specs.Lists.{count, some, every, below, stretch}
use Rattle.walk.specs.Faces.{holds, both, shared, face_at}
use Rattle.lists.proofs.SumLaws.{sum_same}
use Rattle.lists.proofs.EveryLaws.{some-count, every-count}
use Rattle.memory.specs.Memory.{lives, live_faces}
use Rattle.mesh.specs.Clauses.Around.{Gathered}
use Rattle.lists.proofs.CondLaws.{cond-and}
use Rattle.mesh.proofs.AroundLaws.{live-sums}

-- ---- the live faces by their slots

-- a test that a live one fails
fails : (alive passes : Bool) (n : ℕ) → cond (alive && not passes) n 0 ≡ cond (not (not alive || passes)) n 0
fails true passes n = refl
fails false passes n = refl

module _ (f : ℕ) (w : List ℕ) where
  pub count-live : (test : Face → Bool) → count test (live_faces f w) ≡ count (λ k. lives f w k && test (face_at w k)) (below f)
  count-live test =
      live-sums f w (λ p. cond (test p) 1 0) ∙ sum_same _ _ (λ k. sym (cond-and (lives f w k) (test (face_at w k)) 1)) (below f)

  pub some-live : (test : Face → Bool) → some test (live_faces f w) ≡ some (λ k. lives f w k && test (face_at w k)) (below f)
  some-live test =
      some-count test (live_faces f w)
      ∙ ap (ltb 0) (count-live test)
      ∙ sym (some-count (λ k. lives f w k && test (face_at w k)) (below f))

  pub every-live : (test : Face → Bool) → every test (live_faces f w) ≡ every (λ k. not (lives f w k) || test (face_at w k)) (below f)
  every-live test =
      every-count test (live_faces f w)
      ∙ ap (λ (n : ℕ). eqb n 0)
      (count-live (λ p. not (test p)) ∙ sum_same _ _ (λ k. fails (lives f w k) (test (face_at w k)) 1) (below f))
      ∙ sym (every-count (λ k. not (lives f w k) || test (face_at w k)) (below f))

-- ---- a list of the faces around x

regroup : (a b c : Bool) (n : ℕ) → cond (a && b) (cond c n 0) 0 ≡ cond (a && (b && c)) n 0
regroup true true c n = refl
regroup true false c n = refl
regroup false b c n = refl

module _ {v f : ℕ} {w : List ℕ} {x base n : ℕ} (h : Gathered v f w x base n) (u : ℕ) where
  -- those that hold u are the faces that hold both
  pub count-gathered : count (λ k. holds u (face_at w k)) (stretch w base n) ≡ shared (live_faces f w) x u
  count-gathered =
      h.sums (λ k. cond (holds u (face_at w k)) 1 0)
      ∙ sum_same _ _ (λ k. regroup (lives f w k) (holds x (face_at w k)) (holds u (face_at w k)) 1) (below f)
      ∙ sym (count-live f w (both x u))

  pub some-gathered : some (λ k. holds u (face_at w k)) (stretch w base n) ≡ ltb 0 (shared (live_faces f w) x u)
  some-gathered = some-count (λ k. holds u (face_at w k)) (stretch w base n) ∙ ap (ltb 0) count-gathered
