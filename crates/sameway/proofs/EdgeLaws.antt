-- From corners to faces: the edge from a corner is an edge of its face, and a face that repeats an edge is one of which a corner does.
-- Assumes nothing.
use Prim.Native.Nat.{ℕ, ◌+◌, ◌*◌, ◌/◌, ◌%◌, ◌≤◌, ◌<◌}
use native.Mathlib.Omega.{arith}
use mathlib.Core.Path.{◌≡◌, refl, sym, ap, subst, ◌∙◌}
use mathlib.Core.Logic.{◌≢◌}
use mathlib.Core.List.{List}
use mathlib.Core.Bool.{true, false, ◌&&◌, or-true}
use lib.Dec.{ltb, eqb}
use borrow.Author.Tests.{ltb-true, eq-eqb, eqb-true, eqb-false}
use Rattle.lists.specs.Lists.{below}
use Rattle.lists.proofs.TestLaws.{by-test, clash, one_of_three, false_of, ends}
use Rattle.lists.proofs.EveryLaws.{every_some}
use Rattle.lists.proofs.BelowLaws.{all-below}
use Rattle.walk.specs.declared.Face.{Face}
use Rattle.walk.specs.Faces.{runs, face_at}
use Rattle.sameway.specs.Ways.{same_way}
use Rattle.walk.proofs.FaceLaws.{Corners, corners}
use Rattle.memory.specs.Memory.{corner}
use Rattle.sameway.specs.Ways.{repeats}
use Rattle.sameway.proofs.RepeatLaws.{each-good}
use Rattle.sameway.specs.Clauses.{ahead, end_of, SameEdge, Repeated, New, Ordered, Lowest}

-- ---- the corner ahead

ahead-first : (k : ℕ) → ahead (3 * k) ≡ 3 * k + 1
ahead-first k = let r : 3 * k % 3 ≡ 0 = omega arith in rw r

ahead-second : (k : ℕ) → ahead (3 * k + 1) ≡ 3 * k + 2
ahead-second k = let r : (3 * k + 1) % 3 ≡ 1 = omega arith in rw r (omega arith)

ahead-third : (k : ℕ) → ahead (3 * k + 2) ≡ 3 * k
ahead-third k = let r : (3 * k + 2) % 3 ≡ 2 = omega arith in rw r (omega arith)

-- it is one of the same faces' corners
pub ahead_within : (f c : ℕ) → c < 3 * f → ahead c < 3 * f
ahead_within f c h =
    by-test (eqb (c % 3) 2)
    (λ t. rw t (omega arith))
    (λ t. let other : c % 3 ≢ 2 = eqb-false (c % 3) 2 t in rw t (omega arith))

-- what holds at each of the three corners of its face holds at a corner
by-corner : (P : ℕ → Type 0) (c : ℕ) → P (3 * (c / 3)) → P (3 * (c / 3) + 1) → P (3 * (c / 3) + 2) → P c
by-corner P c first second third =
    by-test (eqb c (3 * (c / 3)))
    (λ a. subst P (sym (eqb-true c (3 * (c / 3)) a)) first)
    (λ a.
    by-test (eqb c (3 * (c / 3) + 1))
    (λ b. subst P (sym (eqb-true c (3 * (c / 3) + 1) b)) second)
    (λ b.
    let not_first : c ≢ 3 * (c / 3) = eqb-false c (3 * (c / 3)) a in
    let not-second : c ≢ 3 * (c / 3) + 1 = eqb-false c (3 * (c / 3) + 1) b in
    let e : 3 * (c / 3) + 2 ≡ c = omega arith in
    subst P e third))

-- ---- the edges of a face

runs-first : (f : Face) → runs f.a f.b f ≡ true
runs-first f = rw (eq-eqb f.a f.a refl, eq-eqb f.b f.b refl)

runs-second : (f : Face) → runs f.b f.c f ≡ true
runs-second f = rw (eq-eqb f.b f.b refl, eq-eqb f.c f.c refl, or-true)

runs-third : (f : Face) → runs f.c f.a f ≡ true
runs-third f = rw (eq-eqb f.c f.c refl, eq-eqb f.a f.a refl, or-true)

-- a corner's edge is one of its face
runs-corner : (w : List ℕ) (c : ℕ) → runs (corner w c) (end_of w c) (face_at w (c / 3)) ≡ true
runs-corner w c =
    let face = face_at w (c / 3) in
    by-corner (λ d. runs (corner w d) (end_of w d) (face_at w (c / 3)) ≡ true) c
    (rw (ahead-first (c / 3)) (runs-first face))
    (rw (ahead-second (c / 3)) (runs-second face))
    (rw (ahead-third (c / 3)) (runs-third face))

-- where another face has it, the two run the same way
way_of : (w : List ℕ) (d : ℕ) (g : Face) → runs (corner w d) (end_of w d) g ≡ true → same_way (face_at w (d / 3)) g ≡ true
way_of w d g =
    let f = face_at w (d / 3) in
    by-corner (λ i. runs (corner w i) (end_of w i) g ≡ true → same_way (face_at w (d / 3)) g ≡ true) d
    (λ h. let t : runs f.a f.b g ≡ true = rw (ahead-first (d / 3)) at h in rw t)
    (λ h. let t : runs f.b f.c g ≡ true = rw (ahead-second (d / 3)) at h in rw (t, or-true))
    (λ h. let t : runs f.c f.a g ≡ true = rw (ahead-third (d / 3)) at h in rw (t, or-true))

-- a corner of face k whose edge runs from x to y
record EdgeAt (w : List ℕ) (k x y : ℕ) : Type 0 where
  at : ℕ
  in-face : at / 3 ≡ k
  begins : x ≡ corner w at
  leads : y ≡ end_of w at

-- an edge of a face is a corner's
edge_at : (w : List ℕ) (k x y : ℕ) → runs x y (face_at w k) ≡ true → EdgeAt w k x y
edge_at w k x y h =
    let f = face_at w k in
    one_of_three (eqb x f.a && eqb y f.b) (eqb x f.b && eqb y f.c) (eqb x f.c && eqb y f.a) h
    (λ t. let e = ends x y f.a f.b t in record { at = 3 * k; in-face = omega arith; begins = e.0; leads = rw (ahead-first k) e.1 })
    (λ t. let e = ends x y f.b f.c t in record { at = 3 * k + 1; in-face = omega arith; begins = e.0; leads = rw (ahead-second k) e.1 })
    (λ t. let e = ends x y f.c f.a t in record { at = 3 * k + 2; in-face = omega arith; begins = e.0; leads = rw (ahead-third k) e.1 })

-- two corners, of face j and of face k, with the same edge
record Shared (w : List ℕ) (j k : ℕ) : Type 0 where
  lower : ℕ
  higher : ℕ
  in-lower : lower / 3 ≡ j
  in-higher : higher / 3 ≡ k
  same : SameEdge w lower higher

shared-from : (w : List ℕ) (j k d : ℕ) → d / 3 ≡ j → EdgeAt w k (corner w d) (end_of w d) → Shared w j k
shared-from w j k d here e = record { lower = d; higher = e.at; in-lower = here; in-higher = e.in-face; same = (e.begins, e.leads) }

-- two faces that run the same way have such corners
way-shared : (w : List ℕ) (j k : ℕ) → same_way (face_at w j) (face_at w k) ≡ true → Shared w j k
way-shared w j k h =
    let f = face_at w j in
    let g = face_at w k in
    one_of_three (runs f.a f.b g) (runs f.b f.c g) (runs f.c f.a g) h
    (λ t. shared-from w j k (3 * j) (omega arith) (edge_at w k _ _ (rw (ahead-first j) t)))
    (λ t. shared-from w j k (3 * j + 1) (omega arith) (edge_at w k _ _ (rw (ahead-second j) t)))
    (λ t. shared-from w j k (3 * j + 2) (omega arith) (edge_at w k _ _ (rw (ahead-third j) t)))

-- two corners of one proper face are at different points
same-face : (v : ℕ) (w : List ℕ) (d c : ℕ) → Corners v (face_at w (c / 3)) → d / 3 ≡ c / 3 → d < c → corner w d ≢ corner w c
same-face v w d c p together less at =
    by-test (eqb d (3 * (c / 3)))
    (λ a.
    let first : d ≡ 3 * (c / 3) = eqb-true d (3 * (c / 3)) a in
    by-test (eqb c (3 * (c / 3) + 1))
    (λ b. p.a_b (ap (corner w) (sym first) ∙ at ∙ ap (corner w) (eqb-true c (3 * (c / 3) + 1) b)))
    (λ b.
    let not-second : c ≢ 3 * (c / 3) + 1 = eqb-false c (3 * (c / 3) + 1) b in
    let third : 3 * (c / 3) + 2 ≡ c = omega arith in
    p.c_a (ap (corner w) third ∙ sym at ∙ ap (corner w) first)))
    (λ a.
    let not_first : d ≢ 3 * (c / 3) = eqb-false d (3 * (c / 3)) a in
    let second : 3 * (c / 3) + 1 ≡ d = omega arith in
    let third : c ≡ 3 * (c / 3) + 2 = omega arith in
    p.b_c (ap (corner w) second ∙ at ∙ ap (corner w) third))

-- ---- the lowest face

module _ {v f : ℕ} {w : List ℕ} (ordered : Ordered v f w) where
  -- a face none of whose corners has the edge of a lower corner repeats none
  new-face : (k : ℕ) → ((c : ℕ) → c / 3 ≡ k → New w c) → repeats w k ≡ false
  new-face k new =
      false_of (repeats w k)
      (λ is.
      let (j, low, way) = every_some (λ j. ltb j k) (λ j. same_way (face_at w j) (face_at w k)) (below k) (all-below k) is in
      let two = way-shared w j k way in
      new two.higher two.in-higher two.lower (omega (arith, ltb-true j k low, two.in-lower, two.in-higher)) two.same)

  -- a face one of whose corners has it does
  old-face : (c : ℕ) → c < 3 * f → Repeated w c → repeats w (c / 3) ≡ true
  old-face c within (d, low, same) =
      by-test (eqb (d / 3) (c / 3))
      (λ e. absurd (same-face v w d c (corners v (face_at w (c / 3)) (ordered.faces_proper (c / 3) (omega arith))) (eqb-true (d / 3) (c / 3) e) low same.0))
      (λ e.
      let apart : d / 3 ≢ c / 3 = eqb-false (d / 3) (c / 3) e in
      let way : same_way (face_at w (d / 3)) (face_at w (c / 3)) ≡ true = way_of w d (face_at w (c / 3)) (rw (same.0, same.1) (runs-corner w c)) in
      by-test (repeats w (c / 3)) (λ t. t)
      (λ t. clash way (each-good (λ j. same_way (face_at w j) (face_at w (c / 3))) (c / 3) t (d / 3) (omega arith))))

  -- the lowest corner with the edge of a lower one is the lowest face's
  pub lowest-face : (r : ℕ) → r ≤ 3 * f → ((c : ℕ) → c < r → New w c) → (r < 3 * f → Repeated w r) → Lowest f w (r / 3)
  lowest-face r most new repeated = record {
    most = omega arith;
    none_before = λ k l. new-face k (λ c e. new c (omega arith));
    here = λ l. let within : r < 3 * f = omega arith in old-face r within (repeated within);
  }
