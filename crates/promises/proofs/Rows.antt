-- The verdict of an input that a row of the table holds of, and no earlier row: its number and place.
-- Assumes nothing.
use Prim.Native.Nat.{ℕ, ◌<◌}
use native.Mathlib.Nat.{zero-add}
use native.Mathlib.Omega.{arith}
use mathlib.Core.Path.{◌≡◌, ap, ◌∙◌}
use mathlib.Core.List.{List}
use mathlib.Core.Bool.{Bool, cond}
use lib.ListN.{length, get_or}
use lib.Ieee.{nan}
use Rattle.lists.specs.Lists.{below}
use Rattle.lists.proofs.BelowLaws.{length-below, get_d-below, length-each, get_d-each}
use Rattle.lists.proofs.FirstLaws.{first-place, first_some}
use Rattle.walk.specs.declared.Face.{Face}
use Rattle.walk.specs.Faces.{face_at}
use Rattle.std.specs.Prelude.{⊤, Result, Ok, Err}
use Rattle.meaning.specs.declared.Refusal.TheVariants as refusals
use Rattle.meaning.specs.declared.Refusal.TheVariants.{UnevenList, TooLarge, ShortBuffer, EmptyMesh, PointOutside, PointTwice, BadMargin, UnknownUnit}
use Rattle.meaning.specs.declared.Task.TheVariants.{Copied, Admitted}
use Rattle.meaning.specs.Input.{Input, points_in, faces_in, bound_in}
use Rattle.meaning.specs.declared.Refusal.{Refusal}
use Rattle.meaning.specs.Answers.{bad_coordinate, outside, bad_entry, and_then, face_verdict, margin_verdict, contents_verdict, verdict_of}
use Rattle.meaning.proofs.FaceVerdictLaws.{bad_face, lowest-decides, none-decides}
use Rattle.meaning.proofs.MarginVerdictLaws.{entry-decides, margin-admitted}
use Rattle.promises.specs.Steps.{given_faces}
use Rattle.promises.specs.Table.{Uneven, Large, Short, Empty, BadRatio, BadLimit, BadUnit, BadCoordinate, Outside, BadFace, BadEntry, RatioZero, First, Past1, Past2, Past3, Past4, Past5, Past6, Past24, Past7, PastZero, Past9, Past12}
use Rattle.promises.proofs.Says.{Says, fails, says_same, first_said, none_said}
use Rattle.promises.proofs.Words.{says-uneven, says-large, says-short, says-empty, says-ratio, says-limit, says-unit, says-coordinate, says-zero, says-outside, says-bad-face, says-bad-entry}

-- the numbers of the margin's entries
abbrev pub entries : Input → List ℕ
entries i = below (length i.margin)

pub entries-many : (i : Input) → length (entries i) ≡ length i.margin
entries-many i = length-below (length i.margin)

-- the entries, one by one
pub each-entry : (i : Input) (k : ℕ) → k < length (entries i) → Says (BadEntry i k) (bad_entry (points_in i) i.margin (get_or (entries i) k 0))
each-entry i k h =
    says_same (says-bad-entry i k) (ap (bad_entry (points_in i) i.margin) (get_d-below (length i.margin) k (omega (arith, entries-many i))))

module _ (i : Input) where
  -- the verdict, by 1 to 6 and 24
  pub verdict-1 : Uneven i → verdict_of i ≡ Err UnevenList
  unfolding verdict_of
  verdict-1 u = rw ((says-uneven i).passes u)

  pub verdict-2 : Past1 i → Large i → verdict_of i ≡ Err TooLarge
  unfolding verdict_of
  verdict-2 p l = rw (fails (says-uneven i) p, (says-large i).passes l)

  pub verdict-3 : Past2 i → Short i → verdict_of i ≡ Err ShortBuffer
  unfolding verdict_of
  verdict-3 p s = rw (fails (says-uneven i) p.0, fails (says-large i) p.1, (says-short i).passes s)

  pub verdict-4 : Past3 i → Empty i → verdict_of i ≡ Err EmptyMesh
  unfolding verdict_of
  verdict-4 p e = rw (fails (says-uneven i) p.0.0, fails (says-large i) p.0.1, fails (says-short i) p.1, (says-empty i).passes e)

  pub verdict-5 : Past4 i → BadRatio i → verdict_of i ≡ Err refusals.BadRatio
  unfolding verdict_of
  verdict-5 p b =
      rw (
        fails (says-uneven i) p.0.0.0,
        fails (says-large i) p.0.0.1,
        fails (says-short i) p.0.1,
        fails (says-empty i) p.1,
        (says-ratio i).passes b,
      )

  pub verdict-6 : Past5 i → BadLimit i → verdict_of i ≡ Err refusals.BadLimit
  unfolding verdict_of
  verdict-6 p b =
      rw (
        fails (says-uneven i) p.0.0.0.0,
        fails (says-large i) p.0.0.0.1,
        fails (says-short i) p.0.0.1,
        fails (says-empty i) p.0.1,
        fails (says-ratio i) p.1,
        (says-limit i).passes b,
      )

  pub verdict-24 : Past6 i → BadUnit i → verdict_of i ≡ Err UnknownUnit
  unfolding verdict_of
  verdict-24 p b =
      rw (
        fails (says-uneven i) p.0.0.0.0.0,
        fails (says-large i) p.0.0.0.0.1,
        fails (says-short i) p.0.0.0.1,
        fails (says-empty i) p.0.0.1,
        fails (says-ratio i) p.0.1,
        fails (says-limit i) p.1,
        (says-unit i).passes b,
      )

  -- or by what stands in the lists
  contents : Past24 i → verdict_of i ≡ contents_verdict i.points i.faces i.margin i.options.ratio (bound_in i)
  unfolding verdict_of
  contents p =
      rw (
        fails (says-uneven i) p.0.0.0.0.0.0,
        fails (says-large i) p.0.0.0.0.0.1,
        fails (says-short i) p.0.0.0.0.1,
        fails (says-empty i) p.0.0.0.1,
        fails (says-ratio i) p.0.0.1,
        fails (says-limit i) p.0.1,
        fails (says-unit i) p.1,
      )

  -- the coordinates, one by one
  pub each-coordinate : (k : ℕ) → k < length i.points → Says (BadCoordinate i k) (bad_coordinate (bound_in i) (get_or i.points k nan))
  each-coordinate k h = says-coordinate i k

  -- 7: the first bad one decides
  pub verdict-7 : {k : ℕ} → Past24 i → First (BadCoordinate i) (length i.points) k → verdict_of i ≡ Err (refusals.BadCoordinate k)
  unfolding contents_verdict
  verdict-7 p f =
      let g = first_said (bad_coordinate (bound_in i)) nan i.points each-coordinate f in
      contents p ∙ rw (first_some (bad_coordinate (bound_in i)) nan i.points g, first-place (bad_coordinate (bound_in i)) nan i.points _ g)

  -- ratio zero: the mesh is copied
  pub verdict-zero : Past7 i → RatioZero i → verdict_of i ≡ Ok Copied
  unfolding contents_verdict
  verdict-zero p z = contents p.0 ∙ rw (none_said (bad_coordinate (bound_in i)) nan i.points each-coordinate p.1, z)

  -- what stands past the end of the faces: never read
  pub first_face : Face
  first_face = face_at i.faces 0

  -- the faces, one by one
  pub faces-many : length (given_faces i) ≡ faces_in i
  faces-many = length-each (face_at i.faces) (faces_in i)

  pub face-is : (k : ℕ) → k < faces_in i → get_or (given_faces i) k first_face ≡ face_at i.faces k
  face-is k h = get_d-each (face_at i.faces) (faces_in i) k first_face h

  pub each-face : (k : ℕ) → k < length (given_faces i) → Says (BadFace i k) (bad_face (points_in i) (get_or (given_faces i) k first_face))
  each-face k h = says_same (says-bad-face i k) (ap (bad_face (points_in i)) (face-is k (omega (arith, faces-many))))

  -- past ratio zero the faces decide, and then the margin
  faces-decide : PastZero i → verdict_of i ≡ and_then (face_verdict (points_in i) 0 (given_faces i)) (and_then (margin_verdict (points_in i) i.margin) (Ok Admitted))
  unfolding contents_verdict
  faces-decide p =
      contents p.0.0 ∙ rw (none_said (bad_coordinate (bound_in i)) nan i.points each-coordinate p.0.1, fails (says-zero i) p.1)

  -- the lowest bad one, by 8 or 9
  pub verdict-face : {k : ℕ} → PastZero i → First (BadFace i) (faces_in i) k → verdict_of i ≡ Err (cond (outside (points_in i) (face_at i.faces k)) (PointOutside k) (PointTwice k))
  verdict-face {k} p f =
      let f' : First (BadFace i) (length (given_faces i)) k = rw faces-many f in
      let g = first_said (bad_face (points_in i)) first_face (given_faces i) each-face f' in
      faces-decide p
      ∙ ap (λ (d : Result ⊤ Refusal). and_then d (and_then (margin_verdict (points_in i) i.margin) (Ok Admitted))) (lowest-decides (points_in i) 0 first_face (given_faces i) k g)
      ∙ rw (face-is k f.within, zero-add)

  pub verdict-8 : {k : ℕ} → PastZero i → First (BadFace i) (faces_in i) k → Outside i k → verdict_of i ≡ Err (PointOutside k)
  verdict-8 {k} p f o = verdict-face p f ∙ ap (λ (b : Bool). Err (cond b (PointOutside k) (PointTwice k))) ((says-outside i k).passes o)

  pub verdict-9 : {k : ℕ} → PastZero i → First (BadFace i) (faces_in i) k → ¬ Outside i k → verdict_of i ≡ Err (PointTwice k)
  verdict-9 {k} p f o = verdict-face p f ∙ ap (λ (b : Bool). Err (cond b (PointOutside k) (PointTwice k))) (fails (says-outside i k) o)

  -- past them the margin decides
  margin-decides : Past9 i → verdict_of i ≡ and_then (margin_verdict (points_in i) i.margin) (Ok Admitted)
  margin-decides p =
      let none = none_said (bad_face (points_in i)) first_face (given_faces i) each-face (rw faces-many p.1) in
      faces-decide p.0
      ∙ ap (λ (d : Result ⊤ Refusal). and_then d (and_then (margin_verdict (points_in i) i.margin) (Ok Admitted))) (none-decides (points_in i) 0 (given_faces i) none)

  -- 12: the first bad entry decides
  pub verdict-12 : {k : ℕ} → Past9 i → First (BadEntry i) (length i.margin) k → verdict_of i ≡ Err (BadMargin k)
  verdict-12 {k} p f =
      let f' : First (BadEntry i) (length (entries i)) k = rw (entries-many i) f in
      margin-decides p ∙ ap (λ (d : Result ⊤ Refusal). and_then d (Ok Admitted)) (entry-decides (points_in i) i.margin (first_said (bad_entry (points_in i) i.margin) 0 (entries i) (each-entry i) f'))

  -- or none, and the walk is made
  pub verdict-admitted : Past12 i → verdict_of i ≡ Ok Admitted
  verdict-admitted p =
      margin-decides p.0
      ∙ ap (λ (d : Result ⊤ Refusal). and_then d (Ok Admitted)) (margin-admitted (points_in i) i.margin (none_said (bad_entry (points_in i) i.margin) 0 (entries i) (each-entry i) (rw (entries-many i) p.1)))
