-- What an admitted input is: at most 65,536 points and 131,072 faces, no bad coordinate, faces of three distinct points that there are, and no bad entry
-- in the margin.
-- Assumes nothing.
use Prim.Native.Nat.{◌≤◌}
use mathlib.Core.Path.{◌≡◌, refl}
use mathlib.Core.Bool.{true, false, cond}
use borrow.Author.Tests.{ltb-false}
use lib.Dec.{ltb}
use lib.ListN.{length}
use lib.Ieee.{eq}
use Rattle.lists.specs.Lists.{every, some}
use Rattle.lists.proofs.TestLaws.{neither-of}
use Rattle.lists.proofs.EveryLaws.{none-every}
use Rattle.bits.specs.Cut.{zero_float}
use Rattle.walk.specs.Faces.{proper}
use Rattle.std.specs.Prelude.{Ok, Err, is_ok}
use Rattle.meaning.specs.declared.Refusal.TheVariants.{UnevenList, TooLarge, ShortBuffer, EmptyMesh, BadRatio, BadLimit, BadCoordinate, UnknownUnit}
use Rattle.meaning.specs.declared.Task.TheVariants.{Copied, Admitted}
use Rattle.meaning.specs.Input.{Input, points_in, faces_in, bound_in}
use Rattle.meaning.specs.Answers.{Verdict, uneven, large, short, empty, bad_ratio, bad_limit, bad_unit, bad_coordinate, and_then, face_verdict, margin_verdict, contents_verdict, verdict_of}
use Rattle.meaning.proofs.VerdictOrder.{admits, past, each-passes}
use Rattle.meaning.proofs.FaceVerdictLaws.{faces-proper-of}
use Rattle.meaning.proofs.MarginVerdictLaws.{some_bad, margin_good}
use Rattle.promises.specs.Steps.{given_faces}
use Rattle.promises.specs.Finite.{small}

-- what the checks before the faces have found of an input that isn't refused, and what is left to decide
pub record Checked (i : Input) (w : Verdict) : Type 0 where
  pub points_most : points_in i ≤ 65536
  pub faces_most : faces_in i ≤ 131072
  pub coordinates_good : some (bad_coordinate (bound_in i)) i.points ≡ false
  pub then-lists :
      cond (eq i.options.ratio zero_float) (Ok Copied) (and_then (face_verdict (points_in i) 0 (given_faces i)) (and_then (margin_verdict (points_in i) i.margin) (Ok Admitted))) ≡ w

pub checked : (i : Input) (w : Verdict) → is_ok w ≡ true → verdict_of i ≡ w → Checked i w
unfolding verdict_of contents_verdict
checked i w fine told =
    let one = past is_ok (uneven (length i.points) (length i.faces)) (Err UnevenList) _ refl fine told in
    let two = past is_ok (large (points_in i) (faces_in i)) (Err TooLarge) _ refl fine one.1 in
    let three = past is_ok (short (points_in i) (faces_in i) i.rooms) (Err ShortBuffer) _ refl fine two.1 in
    let four = past is_ok (empty (points_in i) (faces_in i)) (Err EmptyMesh) _ refl fine three.1 in
    let five = past is_ok (bad_ratio i.options.ratio) (Err BadRatio) _ refl fine four.1 in
    let six = past is_ok (bad_limit i.options.limit) (Err BadLimit) _ refl fine five.1 in
    let unit = past is_ok (bad_unit i.options.unit) (Err UnknownUnit) _ refl fine six.1 in
    let seven = past is_ok (some (bad_coordinate (bound_in i)) i.points) (Err (BadCoordinate _)) _ refl fine unit.1 in
    let few = neither-of (ltb 65536 (points_in i)) (ltb 131072 (faces_in i)) two.0 in
    record {
      points_most = ltb-false 65536 (points_in i) few.0;
      faces_most = ltb-false 131072 (faces_in i) few.1;
      coordinates_good = seven.0;
      then-lists = seven.1;
    }

-- every coordinate is finite and at most the bound in size
pub checked-small : {i : Input} {w : Verdict} → Checked i w → every (small (bound_in i)) i.points ≡ true
checked-small {i} found = none-every (bad_coordinate (bound_in i)) i.points found.coordinates_good

-- what the walk needs of what was checked
pub record Passed (i : Input) : Type 0 where
  pub points_most : points_in i ≤ 65536
  pub faces_most : faces_in i ≤ 131072
  pub coordinates_small : every (small (bound_in i)) i.points ≡ true
  pub ratio_above : eq i.options.ratio zero_float ≡ false
  pub faces_proper : every (proper (points_in i)) (given_faces i) ≡ true
  pub entries_good : some_bad (points_in i) i.margin ≡ false

-- an admitted input has passed
pub passed : (i : Input) → verdict_of i ≡ Ok Admitted → Passed i
passed i admitted =
    let found = checked i (Ok Admitted) refl admitted in
    let zero = past admits (eq i.options.ratio zero_float) (Ok Copied) _ refl refl found.then-lists in
    let faces = each-passes (face_verdict (points_in i) 0 (given_faces i)) (and_then (margin_verdict (points_in i) i.margin) (Ok Admitted)) zero.1 in
    let margin = each-passes (margin_verdict (points_in i) i.margin) (Ok Admitted) faces.1 in
    record {
      points_most = found.points_most;
      faces_most = found.faces_most;
      coordinates_small = checked-small found;
      ratio_above = zero.0;
      faces_proper = faces-proper-of (points_in i) 0 (given_faces i) faces.0;
      entries_good = margin_good (points_in i) i.margin margin.0;
    }
