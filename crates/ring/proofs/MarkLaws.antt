-- Rules by which marks change: one after another, at one point, and at the points of a face.
-- Assumes nothing.
use Prim.Native.Nat.{ℕ, ◌+◌, ◌-◌, ◌≤◌, ◌<◌}
use native.Mathlib.Nat.{add-zero}
use native.Mathlib.Omega.{arith}
use mathlib.Core.Path.{◌≡◌, refl, sym, ap, subst, ◌∙◌}
use mathlib.Core.Logic.{◌≢◌}
use mathlib.Core.List.{List}
use mathlib.Core.Bool.{true, ◌||◌, cond}
use lib.Dec.{ltb, eqb}
use lib.ListN.{get_or, set}
use lib.Seq.{get_or-set_same, get_or-set_other, ext_get_or}
use borrow.Author.Tests.{eqb-true, eqb-false, ltb-true, ltb-false}
use Rattle.walk.specs.declared.Face.{Face}
use Rattle.walk.specs.Faces.{holds, proper}
use Rattle.lists.proofs.TestLaws.{by-test, flag-le}
use Rattle.memory.specs.Memory.{mark, Room}
use Rattle.ring.specs.Clauses.Marking.{Remarked}
use Rattle.lists.proofs.CondLaws.{cond_either}
use Rattle.lists.proofs.FrameLaws.{but-refl, but-then, but-set}
use Rattle.walk.proofs.FaceLaws.{Corners, corners, held-once}
use Rattle.memory.specs.Layout.{marks_from, stamps_from}

module _ {v f : ℕ} where
  -- ---- rules

  -- no mark changes
  pub remarked-none : (w : List ℕ) → Remarked v f (λ u m. m) w w
  remarked-none w = record { but = but-refl (marks_from v f) (stamps_from v f) w; marks = λ u l. refl }

  -- one rule after another
  pub remarked-then : {rule next : ℕ → ℕ → ℕ} {w w' w'' : List ℕ} →
      Remarked v f rule w w' → Remarked v f next w' w'' → Remarked v f (λ u m. next u (rule u m)) w w''
  remarked-then {rule} {next} r s = record { but = but-then r.but s.but; marks = λ u l. s.marks u l ∙ ap (next u) (r.marks u l) }

  -- another rule that says the same
  pub remarked-as : {rule same : ℕ → ℕ → ℕ} {w w' : List ℕ} →
      ((u : ℕ) → u < v → rule u (mark v f w u) ≡ same u (mark v f w u)) → Remarked v f rule w w' → Remarked v f same w w'
  remarked-as e r = record { but = r.but; marks = λ u l. r.marks u l ∙ e u l }

  -- where no mark changes, no cell of the marks does
  mark-cell : {w w' : List ℕ} → Remarked v f (λ u m. m) w w' →
      (i : ℕ) → marks_from v f ≤ i → i < stamps_from v f → get_or w' i 0 ≡ get_or w i 0
  mark-cell r i from to =
      let offset : marks_from v f + (i - (marks_from v f)) ≡ i = omega arith in
      rw offset at (r.marks (i - (marks_from v f)) (omega arith))

  -- and so the memory stays
  pub remarked-same : {w w' : List ℕ} → Remarked v f (λ u m. m) w w' → w' ≡ w
  remarked-same {w} {w'} r =
      ext_get_or 0 w' w r.but.same_length
      (λ i l.
      by-test (ltb i (marks_from v f))
      (λ e. r.but.under i (ltb-true i (marks_from v f) e))
      (λ e. by-test (ltb i (stamps_from v f))
      (λ e'. mark-cell r i (ltb-false i (marks_from v f) e) (ltb-true i (stamps_from v f) e'))
      (λ e'. r.but.over i (ltb-false i (stamps_from v f) e'))))

  -- ---- one point

  pub remarked-set : {w : List ℕ} (x value : ℕ) → Room v f w → x < v →
      Remarked v f (λ u m. cond (eqb u x) value m) w (set w (marks_from v f + x) value)
  remarked-set {w} x value room l = record {
    but = but-set (marks_from v f) (stamps_from v f) w (marks_from v f + x) value (omega arith) (omega arith);
    marks = λ u m.
        by-test (eqb u x)
        (λ e. rw (e, eqb-true u x e) (get_or-set_same w (marks_from v f + x) value 0 (omega arith)))
        (λ e. let apart : u ≢ x = eqb-false u x e in
        rw e (get_or-set_other w (marks_from v f + x) (marks_from v f + u) value 0 (omega arith)));
  }

  -- 1 more at a point
  pub remarked-add : {w : List ℕ} (x : ℕ) → Room v f w → x < v →
      Remarked v f (λ u m. m + cond (eqb u x) 1 0) w (set w (marks_from v f + x) (mark v f w x + 1))
  remarked-add {w} x room l =
      remarked-as
      (λ u m. by-test (eqb u x) (λ e. rw (e, eqb-true u x e)) (λ e. rw e (sym (add-zero (mark v f w u)))))
      (remarked-set x (mark v f w x + 1) room l)

  pub remarked-most : (x : ℕ) {w w' : List ℕ} → Remarked v f (λ u m. m + cond (eqb u x) 1 0) w w' →
      (u : ℕ) → u < v → mark v f w' u ≤ mark v f w u + 1
  remarked-most x r u l = omega (arith, r.marks u l, flag-le (eqb u x))

-- ---- the points of a face

-- the corners of a face that was read
pub corners-read : (v : ℕ) {p q : Face} → p ≡ q → proper v q ≡ true → Corners v p
corners-read v {p} read h = corners v p (ap (proper v) read ∙ h)

module _ {v f : ℕ} {w w₁ w₂ w₃ : List ℕ} {p : Face} (q : Face) (read : p ≡ q) where
  -- 1 more at each point
  pub face-marked : proper v q ≡ true →
      Remarked v f (λ u m. m + cond (eqb u p.a) 1 0) w w₁ →
      Remarked v f (λ u m. m + cond (eqb u p.b) 1 0) w₁ w₂ →
      Remarked v f (λ u m. m + cond (eqb u p.c) 1 0) w₂ w₃ →
      Remarked v f (λ u m. m + cond (holds u q) 1 0) w w₃
  face-marked h a b c =
      subst (λ (q : Face). Remarked v f (λ u m. m + cond (holds u q) 1 0) w w₃) read
      (remarked-as (λ u l. omega (arith, held-once v p u 1 (ap (proper v) read ∙ h))) (remarked-then (remarked-then a b) c))

  -- 0 at each point
  pub face-cleared :
      Remarked v f (λ u m. cond (eqb u p.a) 0 m) w w₁ →
      Remarked v f (λ u m. cond (eqb u p.b) 0 m) w₁ w₂ →
      Remarked v f (λ u m. cond (eqb u p.c) 0 m) w₂ w₃ →
      Remarked v f (λ u m. cond (holds u q) 0 m) w w₃
  face-cleared a b c =
      subst (λ (q : Face). Remarked v f (λ u m. cond (holds u q) 0 m) w w₃) read
      (remarked-as
      (λ u l.
      ap (cond (eqb u p.c) 0) (cond_either (eqb u p.a) (eqb u p.b) 0 (mark v f w u))
      ∙ cond_either (eqb u p.a || eqb u p.b) (eqb u p.c) 0 (mark v f w u))
      (remarked-then (remarked-then a b) c))
