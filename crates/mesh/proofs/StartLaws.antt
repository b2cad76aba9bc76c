-- Once points, faces, kinds and quadrics are laid out, the mesh in memory is the one that document 01 starts from.
-- Assumes nothing.
use Prim.Native.Nat.{ℕ, ◌+◌, ◌*◌, ◌≤◌, ◌<◌}
use native.Mathlib.Omega.{arith}
use mathlib.Core.Path.{◌≡◌, refl, sym, ap, ◌∙◌}
use mathlib.Core.List.{List, [], ◌∷◌, map}
use mathlib.Core.Bool.{Bool, true, not}
use lib.Ieee.{Float}
use lib.ListN.{length, get_or, length-map}
use Rattle.geometry.specs.Quadrics.{zero_quadric}
use Rattle.lists.specs.Lists.{those, every, count, below}
use Rattle.placement.specs.Choices.{kind_number}
use Rattle.placement.proofs.PlacementLaws.{kind-back}
use Rattle.walk.specs.declared.Face.{Face}
use Rattle.walk.specs.Faces.{proper, faces_of, face_at}
use Rattle.lists.proofs.EveryLaws.{every-count, every-at, every-head, every-tail, length-those, count-not}
use Rattle.lists.proofs.BelowLaws.{length-below, length-each, get_d-each, each_same}
use Rattle.memory.specs.Memory.{kind, lives, live_faces, live_numbers}
use Rattle.mesh.specs.Clauses.Laid.{Laid, Kinded}
use Rattle.meaning.specs.Input.{point_at}
use Rattle.memory.specs.Points.{quadric_at, with_points, vertex_at, mesh_of}
use Rattle.meaning.specs.Start.{gathered, start_kind, start_vertex, start_mesh}
use Rattle.mesh.specs.Clauses.Quadrics.{QuadricsAre}
use Rattle.memory.proofs.MeshLaws.{mesh-of-parts, live-numbers-but}
use Rattle.mesh.proofs.GatheredLaws.{gathered-same}
use Rattle.mesh.proofs.QuadricLaws.{points-laid}

-- ---- f live faces in f slots are in all of them

-- where every one passes, those that pass are all
those-every : {A : Type 0} (test : A → Bool) (xs : List A) → every test xs ≡ true → those test xs ≡ xs
unfolding those every
those-every test [] all = refl
those-every {A} test (x ∷ xs) all =
    rw (every-head test x xs all) (ap (λ (ys : List A). x ∷ ys) (those-every test xs (every-tail test x xs all)))

module _ (f : ℕ) (faces w : List ℕ) (same : live_faces f w ≡ faces_of f faces) where
  -- every slot is live
  all_live : every (lives f w) (below f) ≡ true
  unfolding live_faces
  all_live =
      let as_many : length (those (lives f w) (below f)) ≡ f =
      sym (length-map (those (lives f w) (below f)) (face_at w)) ∙ ap length same ∙ length-each _ f in
      let none : count (λ k. not (lives f w k)) (below f) ≡ 0 =
      omega (arith, count-not (lives f w) (below f), length-those (lives f w) (below f), length-below f) in
      every-count (lives f w) (below f) ∙ rw none

  -- the faces by slot are the input's
  pub slots-laid : map (face_at w) (below f) ≡ faces_of f faces
  unfolding live_faces
  slots-laid = ap (map (face_at w)) (sym (those-every (lives f w) (below f) all_live)) ∙ same

  -- so they are proper
  pub slots-proper : (v : ℕ) → every (proper v) (faces_of f faces) ≡ true → (k : ℕ) → k < f → proper v (face_at w k) ≡ true
  slots-proper v all k h =
      let first = face_at w 0 in
      rw (get_d-each (face_at w) f k first h) at
      (every-at (proper v) first (map (face_at w) (below f)) (rw slots-laid all) k (rw length-each h))

-- kinds are written past the faces: every face is live still
pub kinded-numbers : {v f : ℕ} {preserve : Bool} {margin faces w₀ w w' : List ℕ} →
    Laid v f faces w₀ w → Kinded v f preserve margin w w' → live_numbers f w' ≡ below f
kinded-numbers {v} {f} {preserve} {margin} {faces} {w₀} {w} {w'} laid kinded =
    live-numbers-but f kinded.but (omega arith) ∙ those-every (lives f w) (below f) (all_live f faces w laid.same_faces)

-- and where it was
pub kinded-laid : {v f : ℕ} {preserve : Bool} {margin faces w₀ w w' : List ℕ} →
    Laid v f faces w₀ w → Kinded v f preserve margin w w' → live_faces f w' ≡ faces_of f faces
unfolding live_faces
kinded-laid {v} {f} {preserve} {margin} {faces} {w₀} {w} {w'} laid kinded =
    let kept : (i : ℕ) → i < 4 * f → get_or w' i 0 ≡ get_or w i 0 = λ i l. kinded.but.under i (omega arith) in
    ap (map (face_at w')) (kinded-numbers laid kinded)
    ∙ each_same (face_at w) (face_at w') f
    (λ k l. rw (kept (3 * k) (omega arith), kept (3 * k + 1) (omega arith), kept (3 * k + 2) (omega arith)))
    ∙ slots-laid f faces w laid.same_faces

-- ---- the start

module _ (v f : ℕ) (points : List Float) (faces : List ℕ) (preserve : Bool) (margin : List ℕ) (all_proper : every (proper v) (faces_of f faces) ≡ true) where
  -- from what the memory holds of each point
  pub mesh-started : (w : List ℕ) (p q : List Float) →
      live_faces f w ≡ faces_of f faces → live_numbers f w ≡ below f →
      ((x : ℕ) → x < v → kind v f w x ≡ kind_number (start_kind v (faces_of f faces) preserve margin x)) →
      ((x : ℕ) → x < v → point_at p x ≡ point_at points x) →
      ((x : ℕ) → x < v → quadric_at q x ≡ gathered p x zero_quadric (faces_of f faces)) →
      mesh_of v f w p q ≡ start_mesh v f points faces preserve margin
  unfolding mesh_of start_mesh
  mesh-started w p q same numbers kinds places quadrics =
      let faces-of = faces_of f faces in
      let quadric : (x : ℕ) → x < v → quadric_at q x ≡ gathered points x zero_quadric faces-of =
      λ x h. quadrics x h ∙ gathered-same points p v places x zero_quadric faces-of all_proper in
      mesh-of-parts _ _ _ _ _ _
      (each_same (start_vertex points faces-of v preserve margin) (vertex_at v f w p q) v (λ x h. rw (places x h, quadric x h, kinds x h, kind-back))) same numbers

  -- the same, as the contracts of laying hand it over. The quadrics may be laid before the kinds or after them, from w'.
  pub mesh-laid : {w₀ w₁ w : List ℕ} {p q₀ q : List Float} (w' : List ℕ) (p₀ : List Float) →
      Laid v f faces w₀ w₁ → Kinded v f preserve margin w₁ w →
      3 * v ≤ length points → p ≡ with_points v points p₀ →
      live_faces f w' ≡ faces_of f faces →
      QuadricsAre v (λ x. gathered p x zero_quadric (map (face_at w') (below f))) q₀ q →
      mesh_of v f w p q ≡ start_mesh v f points faces preserve margin
  mesh-laid {w₀} {w₁} {w} {p} {q₀} {q} w' p₀ laid kinded long copied same quadrics =
      mesh-started w p q (kinded-laid laid kinded) (kinded-numbers laid kinded)
      (λ x h. kinded.kinds x h ∙ ap (λ (fs : List Face). kind_number (start_kind v fs preserve margin x)) laid.same_faces)
      (λ x h. rw copied (points-laid v points p₀ long x h))
      (λ x h. quadrics.at x h ∙ ap (gathered p x zero_quadric) (slots-laid f faces w' same))
