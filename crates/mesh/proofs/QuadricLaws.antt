-- The turns of the loops that lay points and quadrics out.
-- Assumes nothing.
use Prim.Native.Nat.{ℕ, ◌+◌, ◌*◌, ◌≤◌, ◌<◌}
use native.Mathlib.Numerals.{add-one}
use native.Mathlib.Omega.{arith}
use mathlib.Core.Path.{◌≡◌, refl, sym, ap, subst, ◌∙◌}
use mathlib.Core.List.{List, [], ◌∷◌, ◌++◌, map, map-append}
use mathlib.Core.Bool.{Bool, true, cond}
use lib.Dec.{eqb}
use lib.Ieee.{Float, nan}
use lib.ListN.{length, take, drop, get_or-append}
use lib.Seq.{length-take-le, length_front, get_or-take, drop_at, drop-drop, take-length}
use borrow.Author.Count.{below_none, below_more}
use borrow.Author.Tests.{eqb-true, eqb-false, ne_eqb}
use Rattle.geometry.specs.declared.Quadric.{Quadric}
use Rattle.geometry.specs.Quadrics.{zero_quadric, quadric_sum}
use Rattle.walk.specs.declared.Face.{Face}
use Rattle.lists.specs.Lists.{below, overlaid}
use Rattle.walk.specs.Faces.{holds, proper, face_at}
use Rattle.lists.proofs.TestLaws.{by-test}
use Rattle.walk.proofs.FaceLaws.{corners}
use Rattle.meaning.specs.Input.{point_at}
use Rattle.memory.specs.Points.{quadric_at, with_quadric, with_points}
use Rattle.meaning.specs.Start.{face_quadric, gathered}
use Rattle.mesh.specs.Clauses.Quadrics.{with_sum, with_face, QuadricsAre}
use Rattle.memory.proofs.PointLaws.{point-same, quadric-stored}
use Rattle.mesh.proofs.GatheredLaws.{gathered_next}

-- ---- points

-- a list that is as long as the points' cells
pub points-copied : (v : ℕ) (points p : List Float) → length points ≡ 3 * v → overlaid points p ≡ with_points v points p
points-copied v points p long = subst (λ (n : ℕ). overlaid points p ≡ take n points ++ drop n p) long (rw take-length refl)

module _ (v : ℕ) (points p : List Float) (long : 3 * v ≤ length points) where
  -- each point is the one of the list
  pub points-laid : (x : ℕ) → x < v → point_at (with_points v points p) x ≡ point_at points x
  points-laid x h =
      point-same (with_points v points p) points x x
      (λ k l.
      get_or-append (take (3 * v) points) (drop (3 * v) p) nan (3 * x + k) (rw (length-take-le (3 * v) points long) (omega arith))
      ∙ get_or-take (3 * v) points (3 * x + k) nan (omega arith))

  -- the cells past them are as before, and so is the length
  pub points-rest : drop (3 * v) (with_points v points p) ≡ drop (3 * v) p
  points-rest = drop_at (take (3 * v) points) (drop (3 * v) p) (3 * v) (length-take-le (3 * v) points long)

  pub points-length : 3 * v ≤ length p → length (with_points v points p) ≡ length p
  points-length fits =
      length_front p (take (3 * v) points) (3 * v) (length-take-le (3 * v) points long ∙ sym (length-take-le (3 * v) p fits))

-- ---- quadrics, one point after the other

-- no point yet, and one more
pub quadrics-none : (said : ℕ → Quadric) (q : List Float) → QuadricsAre 0 said q q
quadrics-none said q = record { at = below_none (λ x. quadric_at q x ≡ said x); same_length = refl; rest = refl }

pub quadrics-more : {x : ℕ} {said : ℕ → Quadric} {q₀ q : List Float} → 10 * x + 9 < length q →
    QuadricsAre x said q₀ q → QuadricsAre (x + 1) said q₀ (with_quadric q x (said x))
quadrics-more {x} {said} {q₀} {q} fits h =
    let now = quadric-stored q x (said x) in
    let more : 10 * (x + 1) ≡ 10 * x + 10 = omega arith in
    record {
      at =
          below_more (λ y. quadric_at (with_quadric q x (said x)) y ≡ said y) x
          (λ y l. now.other y (omega arith) ∙ h.at y l)
          (now.back (omega arith));
      same_length = now.same_length ∙ h.same_length;
      rest =
          now.rest (x + 1) (omega arith)
          ∙ rw more (sym (drop-drop 10 (10 * x) q) ∙ ap (drop 10) h.rest ∙ drop-drop 10 (10 * x) q₀);
    }

-- ---- a face's quadric is added

-- a step that is taken where a test passes
abbrev taken : {A : Type 0} → (A → A) → Bool → A → A
taken step test r = cond test (step r) r

-- a point is at one corner of a proper face at most, so a step at each corner that it is at is one step where the face holds it
once : {A : Type 0} (v x : ℕ) (f : Face) → proper v f ≡ true → (step : A → A) (r : A) →
    taken step (eqb x f.c) (taken step (eqb x f.b) (taken step (eqb x f.a) r)) ≡ taken step (holds x f) r
once v x f h step r =
    let k = corners v f h in
    by-test (eqb x f.a)
    (λ a. let here = eqb-true x f.a a in
    rw (a, ne_eqb x f.b (λ e. k.a_b (sym here ∙ e)), ne_eqb x f.c (λ e. k.c_a (sym e ∙ here))))
    (λ a. by-test (eqb x f.b)
    (λ b. rw (a, b, ne_eqb x f.c (λ e. k.b_c (sym (eqb-true x f.b b) ∙ e))))
    (λ b. rw (a, b)))

-- the step here: the face's quadric is added
abbrev plus : Quadric → Quadric → Quadric
plus b r = quadric_sum r b

module _ {v : ℕ} {q₀ : List Float} (b : Quadric) where
  -- to one point
  quadrics-sum : {said : ℕ → Quadric} {q : List Float} (x : ℕ) → x < v → 10 * v ≤ length q →
      QuadricsAre v said q₀ q → QuadricsAre v (λ y. taken (plus b) (eqb y x) (said y)) q₀ (with_sum q x b)
  unfolding with_sum
  quadrics-sum {said} {q} x here long h =
      let value = plus b (quadric_at q x) in
      let now = quadric-stored q x value in
      record {
        at = λ y l. by-test (eqb y x)
            (λ e. rw (e, eqb-true y x e) (now.back (omega arith) ∙ ap (plus b) (h.at x here)))
            (λ e. rw e (now.other y (eqb-false y x e) ∙ h.at y l));
        same_length = now.same_length ∙ h.same_length;
        rest = now.rest v here ∙ h.rest;
      }

  -- to the three points of a face
  pub quadrics-face : {said : ℕ → Quadric} {q : List Float} (f : Face) → proper v f ≡ true → 10 * v ≤ length q →
      QuadricsAre v said q₀ q → QuadricsAre v (λ y. taken (plus b) (holds y f) (said y)) q₀ (with_face q f b)
  unfolding with_face
  quadrics-face {said} {q} f h long before =
      let k = corners v f h in
      let one = quadrics-sum f.a k.a_below long before in
      let two = quadrics-sum f.b k.b_below (omega (arith, one.same_length, before.same_length)) one in
      let three = quadrics-sum f.c k.c_below (omega (arith, two.same_length, before.same_length)) two in
      record { at = λ y l. three.at y l ∙ once v y f h (plus b) (said y); same_length = three.same_length; rest = three.rest }

-- ---- all faces

-- what the first k faces have added up to at each point
abbrev pub gathered_to : List ℕ → List Float → ℕ → ℕ → Quadric
gathered_to w p k x = gathered p x zero_quadric (map (face_at w) (below k))

-- one face more
gathered-turn : (w : List ℕ) (p : List Float) (k x : ℕ) →
    gathered_to w p (k + 1) x ≡ taken (plus (face_quadric p (face_at w k))) (holds x (face_at w k)) (gathered_to w p k x)
unfolding below
gathered-turn w p k x =
    rw (add-one k, map-append (face_at w) (below k) (k ∷ [])) (gathered_next p x zero_quadric (map (face_at w) (below k)) (face_at w k))

-- no face yet
pub quadrics-start : {v : ℕ} {q q' : List Float} (w : List ℕ) (p : List Float) →
    QuadricsAre v (λ x. zero_quadric) q q' → QuadricsAre v (gathered_to w p 0) q' q'
unfolding below gathered
quadrics-start w p h = record { at = h.at; same_length = refl; rest = refl }

-- one face more, as the calls of a turn hand it over
pub quadrics-turn : {v : ℕ} {q₀ q q' : List Float} (w : List ℕ) (p : List Float) (k : ℕ) {f : Face} {b : Quadric} →
    proper v (face_at w k) ≡ true → 10 * v ≤ length q → QuadricsAre v (gathered_to w p k) q₀ q →
    f ≡ face_at w k → b ≡ face_quadric p f → q' ≡ with_face q f b → QuadricsAre v (gathered_to w p (k + 1)) q₀ q'
quadrics-turn {v} {q₀} {q} {q'} w p k {f} {b} fair long h face value stored =
    let after = quadrics-face (face_quadric p (face_at w k)) (face_at w k) fair long h in
    rw (stored, value, face)
    (record { at = λ x l. after.at x l ∙ sym (gathered-turn w p k x); same_length = after.same_length; rest = after.rest })

-- one laying after another
pub quadrics-then : {v : ℕ} {said said' : ℕ → Quadric} {q q' q'' : List Float} →
    QuadricsAre v said q q' → QuadricsAre v said' q' q'' → QuadricsAre v said' q q''
quadrics-then h g = record { at = g.at; same_length = g.same_length ∙ h.same_length; rest = g.rest ∙ h.rest }
