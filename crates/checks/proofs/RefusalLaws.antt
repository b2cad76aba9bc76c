-- What a refusal says: its number is one of 1 to 9, 12 or 24, and its place fits u32; 7 names the first bad coordinate, 8 and 9 the lowest bad face, and 12 the first
-- bad entry of the margin.
use Prim.Native.Nat.{ℕ, ◌/◌, ◌^◌, ◌≤◌, ◌<◌}
use native.Mathlib.Omega.{arith}
use mathlib.Core.Path.{◌≡◌, refl, ap}
use mathlib.Core.Logic.{◌⊎◌, inl, inr, ⊎_elim}
use mathlib.Core.List.{List}
use mathlib.Core.Bool.{Bool, true, false, cond, true≢false}
use mathlib.Mathlib.Data.Bool.Basic.{and_intro}
use borrow.Author.Tests.{le-leb}
use lib.ListN.{length, get_or}
use lib.Ieee.{Float, nan, eq}
use Rattle.walk.specs.declared.Face.{Face}
use Rattle.lists.specs.Lists.{some, first_of, FirstAt}
use Rattle.lists.proofs.FirstLaws.{first-of}
use Rattle.walk.specs.Faces.{faces_of}
use Rattle.std.specs.Prelude.{⊤, Result, Ok, Err, is_ok, is_err}
use Rattle.meaning.specs.declared.Refusal.{Refusal}
use Rattle.meaning.specs.declared.Refusal.TheVariants.{UnevenList, TooLarge, ShortBuffer, EmptyMesh, BadRatio, BadLimit, BadCoordinate, PointOutside, PointTwice, BadMargin, UnknownUnit}
use Rattle.meaning.specs.declared.Task.TheVariants.{Copied, Admitted}
use Rattle.meaning.specs.Input.{Input, points_in, faces_in, bound_in}
use Rattle.bits.specs.Cut.{zero_float}
use Rattle.meaning.specs.Answers.{uneven, large, short, empty, bad_ratio, bad_limit, bad_unit, bad_coordinate, outside, number_of, place_of, Verdict, and_then, face_verdict, margin_verdict, contents_verdict, verdict_of}
use Rattle.checks.specs.Facts.{no_face, LowestBad, RefusalFits}
use Rattle.checks.proofs.SearchLaws.{length-faces}
use Rattle.meaning.proofs.VerdictOrder.{past, decided, refused-by}
use Rattle.meaning.proofs.MarginVerdictLaws.{FirstBad, margin-refused, good-few}
use Rattle.lists.proofs.BelowLaws.{length-below, get_d-below}
use Rattle.checks.proofs.OrderLaws.{not-large}
use Rattle.checks.proofs.FaceVerdictLaws.{lowest-of}
use Rattle.checks.proofs.VerdictLaws.{passed-unit}

-- ---- the places of 7, 8, 9 and 12

module _ (points : List Float) (faces margin : List ℕ) (ratio bound : Float) {r : Refusal} (e : contents_verdict points faces margin ratio bound ≡ Err r) where
  -- the lists are refused by 7, by a face, or by an entry of the margin
  contents-refused :
      ((number_of r ≡ 7) × FirstAt (bad_coordinate bound) nan points (place_of r))
      ⊎ (LowestBad (length points / 3) (faces_of (length faces / 3) faces) (number_of r) (place_of r)
      ⊎ ((number_of r ≡ 12) × FirstBad (length points / 3) margin (place_of r)))
  unfolding contents_verdict
  contents-refused =
      ⊎_elim
      (λ (s : (some (bad_coordinate bound) points ≡ true) × (Err (BadCoordinate (first_of (bad_coordinate bound) points)) ≡ Err r)).
      let q : BadCoordinate (first_of (bad_coordinate bound) points) ≡ r = cc in
      let here : FirstAt (bad_coordinate bound) nan points (first_of (bad_coordinate bound) points) = first-of (bad_coordinate bound) nan points s.0 in
      rw (← q) (inl (refl, here)))
      (λ (s : (some (bad_coordinate bound) points ≡ false) × (cond (eq ratio zero_float) (Ok Copied) (and_then (face_verdict (length points / 3) 0 (faces_of (length faces / 3) faces)) (and_then (margin_verdict (length points / 3) margin) (Ok Admitted))) ≡ Err r)).
      let above = past is_err (eq ratio zero_float) (Ok Copied) _ refl refl s.1 in
      inr
      (⊎_elim
      (λ (by-face : face_verdict (length points / 3) 0 (faces_of (length faces / 3) faces) ≡ Err r).
      let l = lowest-of (length points / 3) 0 (faces_of (length faces / 3) faces) by-face in
      let q : place_of r ≡ l.0 = omega (arith, l.1.0) in
      inl (rw q l.1.1))
      (λ (passed : (face_verdict (length points / 3) 0 (faces_of (length faces / 3) faces) ≡ Ok tt) × (and_then (margin_verdict (length points / 3) margin) (Ok Admitted) ≡ Err r)).
      let m = margin-refused (length points / 3) margin (only-refused (margin_verdict (length points / 3) margin) passed.1) in
      inr (rw m.1 (refl, m.2)))
      (refused-by (face_verdict (length points / 3) 0 (faces_of (length faces / 3) faces)) (and_then (margin_verdict (length points / 3) margin) (Ok Admitted)) above.1)))
      (decided (some (bad_coordinate bound) points) _ _ e)
    where
      -- the last check before an input is admitted
      only-refused : (check : Result ⊤ Refusal) → and_then check (Ok Admitted) ≡ Err r → check ≡ Err r
      only-refused (Err why) told = let same : why ≡ r = cc in ap Err same
      only-refused (Ok done) told = absurd (true≢false (ap is_ok told))

-- the number of a bad face is 8 or 9
either-of : (b : Bool) {n : ℕ} → n ≡ cond b 8 9 → (8 ≤ n) × (n ≤ 9)
either-of true e = (omega arith, omega arith)
either-of false e = (omega arith, omega arith)

eight-or-nine : {v : ℕ} {fs : List Face} {n p : ℕ} → LowestBad v fs n p → (8 ≤ n) × (n ≤ 9)
eight-or-nine {v} {fs} {n} {p} l = either-of (outside v (get_or fs p no_face)) l.number

-- 7 names the first bad coordinate
pub first-bad-coordinate : (i : Input) {p : ℕ} → verdict_of i ≡ Err (BadCoordinate p) → FirstAt (bad_coordinate (bound_in i)) nan i.points p
first-bad-coordinate i e =
    ⊎_elim (λ s. s.1) (⊎_elim (λ l. absurd (let h = eight-or-nine l in omega arith)) (λ m. absurd (omega (arith, m.0))))
    (contents-refused i.points i.faces i.margin i.options.ratio (bound_in i) (passed-unit i refl e).rest)

-- 8 and 9 name the lowest bad face, 8 before 9
pub lowest-bad-face : (i : Input) {r : Refusal} → verdict_of i ≡ Err r → 8 ≤ number_of r → number_of r ≤ 9 →
    LowestBad (points_in i) (faces_of (faces_in i) i.faces) (number_of r) (place_of r)
lowest-bad-face i {r} e h most =
    ⊎_elim (λ s. absurd (omega (arith, s.0))) (⊎_elim (λ l. l) (λ m. absurd (omega (arith, m.0))))
    (contents-refused i.points i.faces i.margin i.options.ratio (bound_in i)
    (passed-unit i (and_intro (le-leb 7 (number_of r) (omega arith)) (le-leb (number_of r) 12 (omega arith))) e).rest)

-- 12 names the first bad entry of the margin
pub first-bad-entry : (i : Input) {p : ℕ} → verdict_of i ≡ Err (BadMargin p) → FirstBad (points_in i) i.margin p
first-bad-entry i e =
    ⊎_elim (λ s. absurd (omega (arith, s.0))) (⊎_elim (λ l. absurd (let h = eight-or-nine l in omega arith)) (λ m. m.1))
    (contents-refused i.points i.faces i.margin i.options.ratio (bound_in i) (passed-unit i refl e).rest)

-- ---- every number and place

-- the numbers
numbered : (r : Refusal) → (1 ≤ number_of r) × ((number_of r ≤ 9) ⊎ (number_of r ≡ 12) ⊎ (number_of r ≡ 24))
numbered UnevenList = (omega arith, inl (omega arith))
numbered TooLarge = (omega arith, inl (omega arith))
numbered ShortBuffer = (omega arith, inl (omega arith))
numbered EmptyMesh = (omega arith, inl (omega arith))
numbered BadRatio = (omega arith, inl (omega arith))
numbered BadLimit = (omega arith, inl (omega arith))
numbered (BadCoordinate place) = (omega arith, inl (omega arith))
numbered (PointOutside place) = (omega arith, inl (omega arith))
numbered (PointTwice place) = (omega arith, inl (omega arith))
numbered (BadMargin place) = (omega arith, inr (inl refl))
numbered UnknownUnit = (omega arith, inr (inr refl))

-- the first bad entry's number is at most V: the entries before it ascend below V
entry-few : (v : ℕ) (margin : List ℕ) {p : ℕ} → FirstBad v margin p → p ≤ v
entry-few v margin {p} f =
    let within : p < length margin = rw length-below at f.within in
    good-few v margin p (λ j h. rw (get_d-below (length margin) j (omega arith)) at (f.none_before j h))

-- a refusal whose place is 0, or a later one
from_zero : (test : Bool) (why : Refusal) (later : Verdict) {r : Refusal} → place_of why ≡ 0 → (test ≡ false → later ≡ Err r → place_of r < 2 ^ 32) →
    cond test (Err why) later ≡ Err r → place_of r < 2 ^ 32
from_zero false why later none after e = after refl e
from_zero true why later {r} none after e = let same : why ≡ r = cc in omega (arith, ap place_of same, none)

-- the places of 7 to 9 and 12
contents-fit : (i : Input) {r : Refusal} → large (points_in i) (faces_in i) ≡ false → contents_verdict i.points i.faces i.margin i.options.ratio (bound_in i) ≡ Err r → place_of r < 2 ^ 32
contents-fit i small e =
    let limits = not-large (points_in i) (faces_in i) small in
    ⊎_elim
    (λ s. omega (arith, s.1.within))
    (⊎_elim
    (λ l. omega (arith, l.lowest.within, length-faces (faces_in i) i.faces))
    (λ m. omega (arith, entry-few (points_in i) i.margin m.1)))
    (contents-refused i.points i.faces i.margin i.options.ratio (bound_in i) e)

-- every place
place-fits : (i : Input) {r : Refusal} → verdict_of i ≡ Err r → place_of r < 2 ^ 32
unfolding verdict_of
place-fits i e =
    from_zero (uneven (length i.points) (length i.faces)) UnevenList _ refl
    (λ _. from_zero (large (points_in i) (faces_in i)) TooLarge _ refl
    (λ small. from_zero (short (points_in i) (faces_in i) i.rooms) ShortBuffer _ refl
    (λ _. from_zero (empty (points_in i) (faces_in i)) EmptyMesh _ refl
    (λ _. from_zero (bad_ratio i.options.ratio) BadRatio _ refl
    (λ _. from_zero (bad_limit i.options.limit) BadLimit _ refl
    (λ _. from_zero (bad_unit i.options.unit) UnknownUnit _ refl
    (λ _. contents-fit i small))))))) e

-- a refusal's number is one of the table, and its place fits u32
pub refusal-fits : (i : Input) {r : Refusal} → verdict_of i ≡ Err r → RefusalFits (number_of r) (place_of r)
refusal-fits i {r} e = record { number_least = (numbered r).0; number_known = (numbered r).1; place_fits = place-fits i e }
