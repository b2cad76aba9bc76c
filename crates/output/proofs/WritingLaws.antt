-- The faces that have been written, one face after another.
-- Assumes nothing.
use Prim.Native.Nat.{ℕ, ◌+◌, ◌*◌, ◌≤◌, ◌<◌}
use native.Mathlib.Omega.{arith}
use mathlib.Core.Path.{◌≡◌, refl, sym, ap, ◌∙◌}
use mathlib.Core.List.{List, [], ◌∷◌, ◌++◌}
use mathlib.Core.Bool.{true}
use mathlib.Mathlib.Data.Bool.Basic.{and_elim_left, and_elim_right}
use lib.Dec.{ltb}
use lib.ListN.{length, length-append, length-set, length-map}
use lib.Ieee.{Float}
use borrow.Author.Tests.{ltb-true}
use Rattle.walk.specs.declared.Face.{Face}
use Rattle.walk.specs.Faces.{proper}
use Rattle.walk.specs.Output.{noted, used, place_in, renumbered, numbers_of}
use Rattle.walk.proofs.PlaceLaws.{noted-has, noted-keeps, place-noted}
use Rattle.walk.proofs.RenumberLaws.{used-append, placed, renumbered-append}
use Rattle.lists.proofs.FrameLaws.{but-then}
use Rattle.output.specs.declared.Counts.{Counts}
use Rattle.output.specs.declared.writing.NewNumber.{NewNumber}
use Rattle.lists.specs.Lists.{overlaid}
use Rattle.output.specs.Clauses.Numbering.{three_put, Numbered, FacesOut, FaceWritten}
use Rattle.lists.proofs.OverlayLaws.{over-three}

-- ---- faces as numbers

-- the numbers of one list of faces after another
numbers-append : (fs gs : List Face) → numbers_of (fs ++ gs) ≡ numbers_of fs ++ numbers_of gs
unfolding numbers_of
numbers-append [] gs = refl
numbers-append (f ∷ fs) gs = ap (λ (l : List ℕ). f.a ∷ f.b ∷ f.c ∷ l) (numbers-append fs gs)

-- three numbers to a face
pub length-numbers : (fs : List Face) → length (numbers_of fs) ≡ 3 * length fs
unfolding numbers_of
length-numbers [] = refl
length-numbers (f ∷ fs) = omega (arith, length-numbers fs)

-- as many faces as before
pub length-renumbered : (fs : List Face) → length (renumbered fs) ≡ length fs
unfolding renumbered
length-renumbered fs = length-map fs (placed (used [] fs))

-- ---- one face more

-- the points met after one face more
abbrev after : List Face → Face → List ℕ
after fs face = noted (noted (noted (used [] fs) face.a) face.b) face.c

-- they are those of the longer list of faces
used-after : (fs : List Face) (face : Face) → used [] (fs ++ (face ∷ [])) ≡ after fs face
unfolding used
used-after fs face = used-append [] fs (face ∷ [])

-- its numbers stand after those of the faces before
numbers_after : (fs : List Face) (face : Face) →
    numbers_of (renumbered (fs ++ (face ∷ [])))
    ≡ numbers_of (renumbered fs) ++ (place_in (after fs face) face.a ∷ place_in (after fs face) face.b ∷ place_in (after fs face) face.c ∷ [])
unfolding numbers_of
numbers_after fs face =
    ap numbers_of (renumbered-append fs (face ∷ []))
    ∙ numbers-append (renumbered fs) (placed (used [] (fs ++ (face ∷ []))) face ∷ [])
    ∙ ap (λ (seen : List ℕ). numbers_of (renumbered fs) ++ (place_in seen face.a ∷ place_in seen face.b ∷ place_in seen face.c ∷ [])) (used-after fs face)

module _ {v f : ℕ} {p : List Float} {face : Face} {w w₁ w₂ w₃ : List ℕ} {points points₁ points₂ points₃ : List Float}
    {faces : List ℕ} {counts : Counts} {a b c : NewNumber}
    (first : Numbered v f p face.a w points counts.points w₁ points₁ a)
    (second : Numbered v f p face.b w₁ points₁ a.met w₂ points₂ b)
    (third : Numbered v f p face.c w₂ points₂ b.met w₃ points₃ c) where
  -- the three points are noted one after another, and the face is put by their places
  more : (old : List Float) (before : List ℕ) (fs : List Face) → 3 * length fs + 3 ≤ length before →
      FacesOut v f p old before fs w points faces counts →
      FacesOut v f p old before (fs ++ (face ∷ [])) w₃ points₃ (three_put faces counts.faces a.number b.number c.number)
      (record { points = c.met; faces = counts.faces + 1 })
  more old before fs fits h =
      let seen = used [] fs in
      let one = noted seen face.a in
      let two = noted one face.b in
      let met₁ = first.met-then old seen h.met in
      let met₂ = second.met-then old one met₁ in
      let met₃ = third.met-then old two met₂ in
      let at_a : a.number ≡ place_in (after fs face) face.a =
      first.number old seen h.met
      ∙ sym (place-noted two face.c face.a (noted-keeps one face.b face.a (noted-has seen face.a))
      ∙ place-noted one face.b face.a (noted-has seen face.a)) in
      let at_b : b.number ≡ place_in (after fs face) face.b =
      second.number old one met₁ ∙ sym (place-noted two face.c face.b (noted-has one face.b)) in
      let at_c : c.number ≡ place_in (after fs face) face.c = third.number old two met₂ in
      record {
        met = rw (used-after fs face) met₃;
        faces_written =
            ap (λ (l : List ℕ). three_put l counts.faces a.number b.number c.number) h.faces_written
            ∙ over-three (numbers_of (renumbered fs)) before a.number b.number c.number (3 * counts.faces)
            (omega (arith, length-numbers (renumbered fs), length-renumbered fs, h.faces_counted)) (omega (arith, h.faces_counted))
            ∙ rw (at_a, at_b, at_c) (ap (λ (l : List ℕ). overlaid l before) (sym (numbers_after fs face)));
        faces_counted = omega (arith, h.faces_counted, length-append fs (face ∷ []));
      }

  -- so the face is written
  pub face-written : {faces' : List ℕ} → faces' ≡ three_put faces counts.faces a.number b.number c.number →
      FaceWritten v f p face w points faces counts w₃ points₃ faces' (record { points = c.met; faces = counts.faces + 1 })
  face-written put = rw put (record {
    but = but-then first.but (but-then second.but third.but);
    same_faces = simp length-set;
    listed = more;
  })

-- the points of a proper face are below v
pub corners-low : (v : ℕ) (face : Face) → proper v face ≡ true → (face.a < v) × (face.b < v) × (face.c < v)
corners-low v face ok =
    let at_a : ltb face.a v ≡ true = search (and_elim_left, and_elim_right) in
    let at_b : ltb face.b v ≡ true = search (and_elim_left, and_elim_right) in
    let at_c : ltb face.c v ≡ true = search (and_elim_left, and_elim_right) in
    (ltb-true face.a v at_a, ltb-true face.b v at_b, ltb-true face.c v at_c)
