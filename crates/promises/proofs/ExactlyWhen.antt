-- The number and place of every answer are those that the table gives, exactly: `exactly-when`.
-- Assumes nothing.
use Prim.Native.Nat.{ℕ, ◌≤◌, ◌<◌}
use native.Mathlib.Omega.{arith}
use mathlib.Core.Path.{◌≡◌, refl, sym, ap, ◌∙◌}
use mathlib.Core.Logic.{◌↔◌, ◌≢◌, ◌⊎◌, inl, inr, ⊎_elim}
use mathlib.Core.List.{List, [], ◌∷◌}
use mathlib.Core.Bool.{Bool, true, false, cond, and-false}
use borrow.Author.Tests.{ltb-true, ltb-false, lt-ltb, le-ltb, ne_eqb}
use lib.Dec.{ltb, eqb}
use lib.ListN.{length}
use lib.Ieee.{nan, eq}
use Rattle.lists.specs.Lists.{some, first_of}
use Rattle.lists.proofs.TestLaws.{by-test}
use Rattle.lists.proofs.BelowLaws.{sum-same-below}
use Rattle.lists.proofs.FirstLaws.{first-of}
use Rattle.bits.specs.Cut.{zero_float}
use Rattle.placement.specs.Choices.{fixed}
use Rattle.walk.specs.declared.Pair.{Pair}
use Rattle.walk.specs.Faces.{face_at}
use Rattle.std.specs.Prelude.{Ok, Err}
use Rattle.meaning.specs.declared.Refusal.{Refusal}
use Rattle.meaning.specs.declared.Task.TheVariants.{Copied, Admitted}
use Rattle.meaning.specs.Input.{Input, points_in, faces_in, bound_in}
use Rattle.meaning.specs.Answers.{number_of, place_of, Verdict, uneven, large, short, empty, bad_ratio, bad_limit, bad_unit, bad_coordinate, outside, bad_entry, verdict_of}
use Rattle.meaning.specs.Start.{start_kind, fixed_count}
use Rattle.meaning.specs.Outcome.{closed_walked, target_of, folds_walked, stuck, fixed_in, stuck_answer, outcome, outcome_by}
use Rattle.meaning.proofs.FaceVerdictLaws.{bad_face}
use Rattle.meaning.proofs.MarginVerdictLaws.{some_bad}
use Rattle.promises.specs.Steps.{budget_of, given_faces, fixed_point}
use Rattle.promises.specs.Table.{BadFace, BadEntry, Doubled, Outside, WalkEnds, fixed_points, First, None, Past1, Past2, Past3, Past4, Past5, Past6, Past24, Past7, PastZero, Past9, Past12, Given, row-1, row-2, row-3, row-4, row-5, row-6, row-24, row-7, row_zero, row-8, row-9, row-12, row-10, row-11, row-0}
use Rattle.promises.proofs.Ended.{walk-has-ended, wherever-ended}
use Rattle.promises.proofs.Fixed.{kind-fixed}
use Rattle.promises.proofs.Says.{not_so, first_says, none-says}
use Rattle.promises.proofs.Words.{says-uneven, says-large, says-short, says-empty, says-ratio, says-limit, says-unit, says-zero, says-outside}
use Rattle.promises.proofs.Rows.{verdict-1, verdict-2, verdict-3, verdict-4, verdict-5, verdict-6, verdict-24, verdict-7, verdict-zero, verdict-8, verdict-9, verdict-12, verdict-admitted, each-coordinate, each-face, faces-many, first_face, each-entry, entries, entries-many}

-- a number and a place are the outcome's
abbrev Answers : Input → ℕ → ℕ → Type 0
Answers i n p = ((outcome i).answer.number ≡ n) × ((outcome i).answer.place ≡ p)

-- some row of the table holds of an input
abbrev Some : Input → Type 0
Some i = (n : ℕ) × (p : ℕ) × Given i n p

-- ---- from a verdict to the answer

-- refused: the verdict's own
refused : (i : Input) {r : Refusal} → verdict_of i ≡ Err r → Answers i (number_of r) (place_of r)
unfolding outcome outcome_by
refused i e = (ap (λ (d : Verdict). (outcome_by d i).answer.number) e, ap (λ (d : Verdict). (outcome_by d i).answer.place) e)

-- copied: 0
copied : (i : Input) → verdict_of i ≡ Ok Copied → Answers i 0 0
unfolding outcome outcome_by
copied i e = (ap (λ (d : Verdict). (outcome_by d i).answer.number) e, ap (λ (d : Verdict). (outcome_by d i).answer.place) e)

-- walked with no fold made: 10 or 11
stuck-answers : (i : Input) → verdict_of i ≡ Ok Admitted → stuck i ≡ true → Answers i (stuck_answer (fixed_in i) (closed_walked i)).number (stuck_answer (fixed_in i) (closed_walked i)).place
unfolding outcome outcome_by
stuck-answers i e t = (rw (e, t), rw (e, t))

-- the fixed points that are counted are the table's
pub fixed_counted : (i : Input) → fixed_in i ≡ fixed_points i
unfolding fixed_count
fixed_counted i =
    sum-same-below (λ x. cond (fixed (start_kind (points_in i) (given_faces i) i.options.preserve i.margin x)) 1 0) (λ x. cond (fixed_point i x) 1 0)
    (points_in i) (λ x h. ap (λ (b : Bool). cond b 1 0) (kind-fixed i x))

-- walked: 0
thinned-answers : (i : Input) → verdict_of i ≡ Ok Admitted → stuck i ≡ false → Answers i 0 0
unfolding outcome outcome_by
thinned-answers i e t = (rw (e, t), rw (e, t))

-- ---- the walk of an input that is not refused

module _ (i : Input) (admitted : verdict_of i ≡ Ok Admitted) where
  -- it comes to its end, with the folds that the outcome has
  ends : WalkEnds i (folds_walked i)
  unfolding folds_walked
  ends = (budget_of i, walk-has-ended i admitted, refl)

  -- and with no others
  ends_so : {folds : List Pair} → WalkEnds i folds → folds_walked i ≡ folds
  ends_so (n, e, same) = sym (wherever-ended i admitted n e).1 ∙ same

  -- it is stuck where no fold was made and F is above the target
  is_stuck : WalkEnds i [] → target_of i < faces_in i → stuck i ≡ true
  is_stuck none above = rw (ends_so none, lt-ltb (target_of i) (faces_in i) above)

  -- and not where one was made or F is not above it
  not_stuck : {folds : List Pair} → WalkEnds i folds → (folds ≢ []) ⊎ (faces_in i ≤ target_of i) → stuck i ≡ false
  not_stuck makes either =
      ⊎_elim (λ some-made. rw (some-length (folds_walked i) (λ e. some-made (sym (ends_so makes) ∙ e)))) (λ few. rw (le-ltb (target_of i) (faces_in i) few, and-false)) either
    where
      some-length : (xs : List Pair) → xs ≢ [] → eqb (length xs) 0 ≡ false
      some-length [] n = absurd (n refl)
      some-length (x ∷ xs) n = ne_eqb (length (x ∷ xs)) 0 (omega arith)

-- ---- each row gives its number and its place

module _ (i : Input) where
  -- what the table gives is the answer
  pub given-answers : {n p : ℕ} → Given i n p → ((outcome i).answer.number ≡ n) × ((outcome i).answer.place ≡ p)
  given-answers (row-1 u) = refused i (verdict-1 i u)
  given-answers (row-2 p l) = refused i (verdict-2 i p l)
  given-answers (row-3 p s) = refused i (verdict-3 i p s)
  given-answers (row-4 p e) = refused i (verdict-4 i p e)
  given-answers (row-5 p b) = refused i (verdict-5 i p b)
  given-answers (row-6 p b) = refused i (verdict-6 i p b)
  given-answers (row-24 p b) = refused i (verdict-24 i p b)
  given-answers (row-7 p f) = refused i (verdict-7 i p f)
  given-answers (row_zero p z) = copied i (verdict-zero i p z)
  given-answers (row-8 p f o) = refused i (verdict-8 i p f o)
  given-answers (row-9 p f o d) = refused i (verdict-9 i p f o)
  given-answers (row-12 p f) = refused i (verdict-12 i p f)
  given-answers (row-10 p none above least) =
      let admitted = verdict-admitted i p in
      rw (fixed_counted i, lt-ltb 0 (fixed_points i) least) at (stuck-answers i admitted (is_stuck i admitted none above))
  given-answers (row-11 p none above free) =
      let admitted = verdict-admitted i p in
      rw (fixed_counted i, free) at (stuck-answers i admitted (is_stuck i admitted none above))
  given-answers (row-0 p makes either) =
      let admitted = verdict-admitted i p in
      thinned-answers i admitted (not_stuck i admitted makes either)

  -- ---- some row holds of every input

  -- of one that the walk is made for
  walk-row : Past12 i → Some i
  walk-row p =
      let makes = ends i (verdict-admitted i p) in
      by-test (ltb (target_of i) (faces_in i))
      (λ above. by-list (folds_walked i)
      (λ none. stuck-row (rw none at makes) (ltb-true (target_of i) (faces_in i) above))
      (λ made. (0, 0, row-0 p makes (inl made))))
      (λ few. (0, 0, row-0 p makes (inr (ltb-false (target_of i) (faces_in i) few))))
    where
      by-list : (xs : List Pair) → (xs ≡ [] → Some i) → (xs ≢ [] → Some i) → Some i
      by-list [] none made = none refl
      by-list (x ∷ xs) none made = made (λ e. let z : ◌≡◌ {A = ℕ} 0 1 = cc in omega arith)

      stuck-row : WalkEnds i [] → target_of i < faces_in i → Some i
      stuck-row none above =
          by-test (ltb 0 (fixed_points i))
          (λ least. (10, fixed_points i, row-10 p none above (ltb-true 0 (fixed_points i) least)))
          (λ few. (11, 0, row-11 p none above (omega (arith, ltb-false 0 (fixed_points i) few))))

  -- of one whose margin is looked at
  margin-row : Past9 i → Some i
  margin-row p =
      let bad = bad_entry (points_in i) i.margin in
      by-test (some_bad (points_in i) i.margin)
      (λ t.
      let found = first_says bad 0 (entries i) (each-entry i) (first-of bad 0 (entries i) t) in
      let k = first_of bad (entries i) in
      let f : First (BadEntry i) (length i.margin) k = rw (entries-many i) at found in
      (12, k, row-12 p f))
      (λ none.
      let all = none-says bad 0 (entries i) (each-entry i) none in
      let every-entry : None (BadEntry i) (length i.margin) = rw (entries-many i) at all in
      walk-row (p, every-entry))

  -- of one whose faces are looked at
  faces-row : PastZero i → Some i
  faces-row p =
      by-test (some (bad_face (points_in i)) (given_faces i))
      (λ t.
      let k = first_of (bad_face (points_in i)) (given_faces i) in
      let found = first_says (bad_face (points_in i)) (first_face i) (given_faces i) (each-face i) (first-of (bad_face (points_in i)) (first_face i) (given_faces i) t) in
      let f : First (BadFace i) (faces_in i) k = rw (faces-many i) at found in
      by-test (outside (points_in i) (face_at i.faces k))
      (λ o. (8, k, row-8 p f ((says-outside i k).holds o)))
      (λ o. let inside = not_so (says-outside i k) o in (9, k, row-9 p f inside (doubled-so k inside f.here))))
      (λ none.
      let all = none-says (bad_face (points_in i)) (first_face i) (given_faces i) (each-face i) none in
      let every-face : None (BadFace i) (faces_in i) = rw (faces-many i) at all in
      margin-row (p, every-face))
    where
      doubled-so : (k : ℕ) → ¬ Outside i k → BadFace i k → Doubled i k
      doubled-so k inside bad = ⊎_elim (λ o. absurd (inside o)) (λ d. d) bad

  -- of one whose coordinates are looked at
  contents-row : Past24 i → Some i
  contents-row p =
      by-test (some (bad_coordinate (bound_in i)) i.points)
      (λ t. (
        7,
        first_of (bad_coordinate (bound_in i)) i.points,
        row-7 p (first_says (bad_coordinate (bound_in i)) nan i.points (each-coordinate i) (first-of (bad_coordinate (bound_in i)) nan i.points t)),
      ))
      (λ none.
      let past : Past7 i = (p, none-says (bad_coordinate (bound_in i)) nan i.points (each-coordinate i) none) in
      by-test (eq i.options.ratio zero_float)
      (λ z. (0, 0, row_zero past z))
      (λ above. faces-row (past, not_so (says-zero i) above)))

  -- of any
  some-row : Some i
  some-row =
      by-test (uneven (length i.points) (length i.faces))
      (λ t. (1, 0, row-1 ((says-uneven i).holds t)))
      (λ f1. let p1 : Past1 i = not_so (says-uneven i) f1 in by-test (large (points_in i) (faces_in i))
      (λ t. (2, 0, row-2 p1 ((says-large i).holds t)))
      (λ f2. let p2 : Past2 i = (p1, not_so (says-large i) f2) in by-test (short (points_in i) (faces_in i) i.rooms)
      (λ t. (3, 0, row-3 p2 ((says-short i).holds t)))
      (λ f3. let p3 : Past3 i = (p2, not_so (says-short i) f3) in by-test (empty (points_in i) (faces_in i))
      (λ t. (4, 0, row-4 p3 ((says-empty i).holds t)))
      (λ f4. let p4 : Past4 i = (p3, not_so (says-empty i) f4) in by-test (bad_ratio i.options.ratio)
      (λ t. (5, 0, row-5 p4 ((says-ratio i).holds t)))
      (λ f5. let p5 : Past5 i = (p4, not_so (says-ratio i) f5) in by-test (bad_limit i.options.limit)
      (λ t. (6, 0, row-6 p5 ((says-limit i).holds t)))
      (λ f6. let p6 : Past6 i = (p5, not_so (says-limit i) f6) in by-test (bad_unit i.options.unit)
      (λ t. (24, 0, row-24 p6 ((says-unit i).holds t)))
      (λ f24. contents-row (p6, not_so (says-unit i) f24))))))))

  -- ---- exactly when

  -- the number and the place of the answer are n and p exactly when the table gives them
  pub exactly-when : (n p : ℕ) → (((outcome i).answer.number ≡ n) × ((outcome i).answer.place ≡ p)) ↔ Given i n p
  exactly-when n p = (λ is. moved some-row is, given-answers)
    where
      moved : Some i → Answers i n p → Given i n p
      moved (m, q, row) is =
          let said = given-answers row in
          let number : m ≡ n = sym said.0 ∙ is.0 in
          let place : q ≡ p = sym said.1 ∙ is.1 in
          rw (number, place) at row

  -- so the number is n exactly when the table gives n with some place
  pub number-exactly-when : (n : ℕ) → ((outcome i).answer.number ≡ n) ↔ ((p : ℕ) × Given i n p)
  number-exactly-when n = (λ is. ((outcome i).answer.place, (exactly-when n (outcome i).answer.place).0 (is, refl)), λ row. (given-answers row.1).0)

  -- and the table gives every input one number with one place
  pub one-row : {n p m q : ℕ} → Given i n p → Given i m q → (n ≡ m) × (p ≡ q)
  one-row a b =
      let said = given-answers a in
      let also = given-answers b in
      (sym said.0 ∙ also.0, sym said.1 ∙ also.1)
