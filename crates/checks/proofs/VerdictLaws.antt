-- What a verdict says of its input. An input is admitted exactly when it is admissible, and copied exactly when it is copiable.
use mathlib.Core.Path.{◌≡◌, refl, sym, ap}
use mathlib.Core.Bool.{Bool, true, false, ◌&&◌, cond}
use mathlib.Mathlib.Data.Bool.Basic.{and_intro}
use borrow.Author.Tests.{ltb-false, le-ltb, not-false}
use lib.Dec.{leb}
use lib.ListN.{length}
use lib.Ieee.{nan, le, eq}
use lib.Ieee.Bits.{is_true}
use denote.Floats.{passes}
use Rattle.lists.specs.Lists.{some}
use Rattle.walk.specs.Faces.{faces_of}
use Rattle.std.specs.Prelude.{⊤, Result, Ok, Err}
use Rattle.meaning.specs.declared.Refusal.{Refusal}
use Rattle.meaning.specs.declared.Refusal.TheVariants.{UnevenList, TooLarge, ShortBuffer, EmptyMesh, BadRatio, BadLimit, BadCoordinate, UnknownUnit}
use Rattle.meaning.specs.declared.Task.TheVariants.{Copied, Admitted}
use Rattle.meaning.specs.Input.{Input, points_in, faces_in, bound_in}
use Rattle.bits.specs.Cut.{zero_float, one_float}
use Rattle.meaning.specs.Answers.{uneven, large, short, empty, bad_ratio, bad_limit, bad_unit, bad_coordinate, number_of, Verdict, and_then, face_verdict, margin_verdict, contents_verdict, verdict_of}
use Rattle.checks.specs.Facts.{Sized, Copiable, Admissible}
use Rattle.lists.proofs.TestLaws.{both_true, neither-of}
use Rattle.checks.proofs.TestLaws.{neither, by_three, even-threes, above_zero, not-zero, each-fails, none_passes}
use Rattle.meaning.proofs.VerdictOrder.{admits, copies, decides, goes_on, past, both-pass, each-passes}
use Rattle.meaning.proofs.FaceVerdictLaws.{faces-proper-of, faces-admitted}
use Rattle.meaning.proofs.MarginVerdictLaws.{margin-admitted, margin_good, each-good}
use Rattle.checks.proofs.MarginLaws.{all-good}

-- ---- numbers 1 to 6 and 24

-- the verdicts that none of 1 to 6 and 24 gives
abbrev late : Verdict → Bool
late (Err why) = leb 7 (number_of why) && leb (number_of why) 12
late (Ok Copied) = true
late (Ok Admitted) = true

-- none of the tests 1 to 6 and 24 holds, and r is what the lists then give
pub record PassedUnit (i : Input) (r : Verdict) : Type 0 where
  pub one : uneven (length i.points) (length i.faces) ≡ false
  pub two : large (points_in i) (faces_in i) ≡ false
  pub three : short (points_in i) (faces_in i) i.rooms ≡ false
  pub four : empty (points_in i) (faces_in i) ≡ false
  pub five : bad_ratio i.options.ratio ≡ false
  pub six : bad_limit i.options.limit ≡ false
  pub unit : bad_unit i.options.unit ≡ false
  pub rest : contents_verdict i.points i.faces i.margin i.options.ratio (bound_in i) ≡ r

-- a verdict that none of them gives comes after those tests, and back
pub passed-unit : (i : Input) {r : Verdict} → late r ≡ true → verdict_of i ≡ r → PassedUnit i r
unfolding verdict_of
passed-unit i l e =
    let a = past late (uneven (length i.points) (length i.faces)) (Err UnevenList) _ refl l e in
    let b = past late (large (points_in i) (faces_in i)) (Err TooLarge) _ refl l a.1 in
    let c = past late (short (points_in i) (faces_in i) i.rooms) (Err ShortBuffer) _ refl l b.1 in
    let d = past late (empty (points_in i) (faces_in i)) (Err EmptyMesh) _ refl l c.1 in
    let f = past late (bad_ratio i.options.ratio) (Err BadRatio) _ refl l d.1 in
    let g = past late (bad_limit i.options.limit) (Err BadLimit) _ refl l f.1 in
    let h = past late (bad_unit i.options.unit) (Err UnknownUnit) _ refl l g.1 in
    record { one = a.0; two = b.0; three = c.0; four = d.0; five = f.0; six = g.0; unit = h.0; rest = h.1 }

decided-late : (i : Input) {r : Verdict} → PassedUnit i r → verdict_of i ≡ r
unfolding verdict_of
decided-late i p =
    sym
    (goes_on _ _ _ _ _ refl p.one
    (goes_on _ _ _ _ _ refl p.two
    (goes_on _ _ _ _ _ refl p.three
    (goes_on _ _ _ _ _ refl p.four
    (goes_on _ _ _ _ _ refl p.five
    (goes_on _ _ _ _ _ refl p.six (goes_on _ _ _ _ _ refl p.unit (sym p.rest))))))))

-- none of 1 to 7 and 24 holds exactly where the input is sized
sized_of : (i : Input) {r : Verdict} → PassedUnit i r → some (bad_coordinate (bound_in i)) i.points ≡ false → Sized i
sized_of i p seven =
    let lengths = neither-of _ _ p.one in
    let limits = neither-of _ _ p.two in
    let f64s = neither-of _ _ p.three in
    let f32s = neither-of _ _ f64s.0 in
    let u32s = neither-of _ _ f32s.0 in
    let outputs = neither-of _ _ u32s.0 in
    let counts = neither-of _ _ p.four in
    let ratio = both_true (le zero_float i.options.ratio) (le i.options.ratio one_float) (not-false _ p.five) in
    record {
      points_by_three = by_three _ lengths.0;
      faces_by_three = by_three _ lengths.1;
      points_most = ltb-false _ _ limits.0;
      faces_most = ltb-false _ _ limits.1;
      room_points = ltb-false _ _ outputs.0;
      room_faces = ltb-false _ _ outputs.1;
      room_u32s = ltb-false _ _ u32s.1;
      room_f32s = ltb-false _ _ f32s.1;
      room_f64s = ltb-false _ _ f64s.1;
      points_some = above_zero _ counts.0;
      faces_some = above_zero _ counts.1;
      ratio_least = passes _ ratio.0;
      ratio_most = passes _ ratio.1;
      limit_good = p.six;
      unit_known = not-false _ p.unit;
      coordinates_good = each-fails (bad_coordinate (bound_in i)) nan i.points seven;
    }

-- and back, with what the lists give
passed-of : (i : Input) {r : Verdict} → Sized i → contents_verdict i.points i.faces i.margin i.options.ratio (bound_in i) ≡ r → PassedUnit i r
passed-of i s e =
    record {
      one = neither (even-threes _ s.points_by_three) (even-threes _ s.faces_by_three);
      two = neither (le-ltb _ _ s.points_most) (le-ltb _ _ s.faces_most);
      three =
          neither
          (neither
          (neither
          (neither (le-ltb _ _ s.room_points) (le-ltb _ _ s.room_faces))
          (le-ltb _ _ s.room_u32s))
          (le-ltb _ _ s.room_f32s))
          (le-ltb _ _ s.room_f64s);
      four = neither (not-zero _ s.points_some) (not-zero _ s.faces_some);
      five = rw (and_intro (is_true (le zero_float i.options.ratio) s.ratio_least) (is_true (le i.options.ratio one_float) s.ratio_most));
      six = s.limit_good;
      unit = rw s.unit_known;
      rest = e;
    }

-- no coordinate of a sized input is bad
no-bad-coordinate : (i : Input) → Sized i → some (bad_coordinate (bound_in i)) i.points ≡ false
no-bad-coordinate i s = none_passes (bad_coordinate (bound_in i)) nan i.points s.coordinates_good

-- ---- copied and admitted

-- an admitted input is admissible
pub admitted : (i : Input) → verdict_of i ≡ Ok Admitted → Admissible i
unfolding contents_verdict
admitted i e =
    let p = passed-unit i refl e in
    let seven = past admits (some (bad_coordinate (bound_in i)) i.points) (Err (BadCoordinate _)) _ refl refl p.rest in
    let above = past admits (eq i.options.ratio zero_float) (Ok Copied) _ refl refl seven.1 in
    let faces = each-passes (face_verdict (points_in i) 0 (faces_of (faces_in i) i.faces)) (and_then (margin_verdict (points_in i) i.margin) (Ok Admitted)) above.1 in
    let margin = each-passes (margin_verdict (points_in i) i.margin) (Ok Admitted) faces.1 in
    record {
      sized = sized_of i p seven.0;
      ratio_above = above.0;
      faces_proper = faces-proper-of (points_in i) 0 (faces_of (faces_in i) i.faces) faces.0;
      margin_good = each-good (points_in i) i.margin (margin_good (points_in i) i.margin margin.0);
    }

-- an admissible input is admitted
pub is-admitted : (i : Input) → Admissible i → verdict_of i ≡ Ok Admitted
unfolding contents_verdict
is-admitted i a =
    decided-late i
    (passed-of i a.sized
    (sym
    (goes_on _ _ _ _ _ refl (no-bad-coordinate i a.sized)
    (goes_on _ _ _ _ _ refl a.ratio_above
    (sym
    (both-pass (faces-admitted (points_in i) 0 (faces_of (faces_in i) i.faces) a.faces_proper)
    (both-pass (margin-admitted (points_in i) i.margin (all-good (points_in i) i.margin a.margin_good)) refl)))))))

-- copied, or by the faces and the margin, which never say so
zero_of : (test : Bool) (faces margin : Result ⊤ Refusal) → cond test (Ok Copied) (and_then faces (and_then margin (Ok Admitted))) ≡ Ok Copied → test ≡ true
zero_of true faces margin e = refl
zero_of false (Err why) margin e = ap copies e
zero_of false (Ok done) (Err why) e = ap copies e
zero_of false (Ok done) (Ok also) e = ap copies e

-- a copied input is copiable
pub copied : (i : Input) → verdict_of i ≡ Ok Copied → Copiable i
unfolding contents_verdict
copied i e =
    let p = passed-unit i refl e in
    let seven = past copies (some (bad_coordinate (bound_in i)) i.points) (Err (BadCoordinate _)) _ refl refl p.rest in
    record {
      sized = sized_of i p seven.0;
      ratio_zero =
          zero_of (eq i.options.ratio zero_float) (face_verdict (points_in i) 0 (faces_of (faces_in i) i.faces)) (margin_verdict (points_in i) i.margin) seven.1;
    }

-- a copiable input is copied
pub is-copied : (i : Input) → Copiable i → verdict_of i ≡ Ok Copied
unfolding contents_verdict
is-copied i c =
    decided-late i
    (passed-of i c.sized (sym (goes_on _ _ _ _ _ refl (no-bad-coordinate i c.sized) (decides _ _ _ _ refl c.ratio_zero))))
