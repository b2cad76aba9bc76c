-- The file that the program writes for a scan is thinned by it to the same mesh, with no fold.
-- Assumes nothing.
use Prim.Native.Nat.{ℕ, ◌*◌, ◌/◌, ◌<◌}
use native.Mathlib.Nat.{le_of_eq}
use native.Mathlib.Omega.{arith}
use mathlib.Core.Path.{◌≡◌, refl, sym, ap, ◌∙◌}
use mathlib.Core.List.{List, []}
use mathlib.Core.Bool.{true}
use borrow.Author.Tests.{not-true}
use lib.ListN.{length, replicate, length-replicate}
use lib.Ieee.{Float, nan, of_bits, le, eq}
use Rattle.lists.specs.Lists.{every}
use Rattle.lists.proofs.EveryLaws.{every-at}
use Rattle.records.specs.Words.{numbers_from}
use Rattle.meaning.specs.Answers.{Verdict}
use Rattle.units.specs.declared.Unit.{Unit}
use Rattle.units.specs.Units.{unit_number, unit_bound}
use Rattle.units.proofs.UnitLaws.{unit-of-number, number_known}
use Rattle.meaning.specs.Input.{Input}
use Rattle.meaning.specs.Outcome.{Outcome, outcome_by, outcome}
use Rattle.walk.specs.Closings.{none_closed}
use Rattle.promises.specs.Finite.{small}
use Rattle.promises.proofs.Finite.{outcome-finite}
use Rattle.checks.specs.Facts.{Copiable}
use Rattle.checks.proofs.VerdictLaws.{is-copied}
use Rattle.scanfile.specs.declared.Head.{Head}
use Rattle.std.specs.Prelude.{Ok}
use Rattle.scanfile.specs.Layout.{points_at}
use Rattle.scanfile.specs.Scans.{scan_of}
use Rattle.scanfile.specs.Contents.{points_of, face_numbers_of, margin_of}
use Rattle.scanfile.proofs.GoodLaws.{good-file}
use Rattle.scanwriter.specs.Written.{scan_bytes}
use Rattle.scanwriter.specs.Clauses.{ScanFits}
use Rattle.scanwriter.specs.Back.{written_head}
use Rattle.scanwriter.proofs.BackLaws.{reads-back}
use Rattle.replies.specs.declared.Wanted.{Wanted}
use Rattle.replies.specs.Replies.{mesh, mesh_bytes, outcome_told, call_of, reply_by, reply_of}
use Rattle.replies.specs.Clauses.{Small}
use Rattle.replies.proofs.OutcomeLaws.{counted}
use Rattle.replies.proofs.ReplyLaws.{small-fits, points-length, faces-length}
use Rattle.replies.proofs.FitLaws.{Fit, each-single, read-single, outcome-fit}

-- what the library is handed for a good file with the head h, and what comes out
abbrev pub scan_call : List ℕ → Head → Input
scan_call bytes h =
    call_of h (points_of bytes h.points) (face_numbers_of bytes h.points h.faces) (margin_of bytes h.points h.faces h.margin)

abbrev pub scan_outcome : List ℕ → Head → Outcome
scan_outcome bytes h = outcome (scan_call bytes h)

-- ---- a mesh as the program writes it is copied

-- what the library is handed for a mesh that was written: no margin
abbrev written_call : Unit → List Float → List ℕ → Input
written_call unit points faces = call_of (written_head unit (length points / 3) (length faces / 3)) points faces []

-- a mesh of the program's size that is there, with no bad coordinate
record Whole (unit : Unit) (points : List Float) (faces : List ℕ) : Type 0 where
  small_enough : Small points faces
  points_some : 0 < length points
  faces_some : 0 < length faces
  coordinates_good : every (small (unit_bound unit)) points ≡ true

module _ {unit : Unit} {points : List Float} {faces : List ℕ} (whole : Whole unit points faces) where
  -- it fits a file
  file-fits : ScanFits (unit_number unit) points faces (replicate 12288 0)
  file-fits = small-fits unit (le_of_eq (sym (length-replicate {A = ℕ} 12288 0))) whole.small_enough

  -- with a written file's options it is copied
  copiable : Copiable (written_call unit points faces)
  unfolding of_bits le eq
  copiable = record {
    sized = record {
      points_by_three = whole.small_enough.points_by_three;
      faces_by_three = whole.small_enough.faces_by_three;
      points_most = omega arith;
      faces_most = omega arith;
      room_points = omega arith;
      room_faces = omega arith;
      room_u32s = omega arith;
      room_f32s = omega arith;
      room_f64s = omega arith;
      points_some = omega arith;
      faces_some = omega arith;
      ratio_least = tt;
      ratio_most = tt;
      limit_good = refl;
      unit_known = number_known unit;
      coordinates_good = λ k inside. rw (unit-of-number unit) (not-true _ (every-at (small (unit_bound unit)) nan points whole.coordinates_good k inside));
    };
    ratio_zero = refl;
  }

  -- and its reply is the mesh itself, with no fold
  copied-told : (wanted : Wanted) → outcome_told wanted unit (outcome (written_call unit points faces)) ≡ mesh (mesh_bytes wanted unit 0 points faces) none_closed
  unfolding outcome outcome_by
  copied-told wanted = ap (λ (d : Verdict). outcome_told wanted unit (outcome_by d (written_call unit points faces))) (is-copied _ copiable)

-- ---- what comes out is written, read back and copied

module _ (bytes : List ℕ) (h : Head) (good : scan_of bytes ≡ Ok h) where
  -- it is no larger than the file's mesh, and of f32s
  fit : Fit (3 * h.points) (3 * h.faces) (scan_outcome bytes h)
  fit =
      rw (points-length bytes h.points, faces-length bytes h.points h.faces) at
      (outcome-fit (scan_call bytes h) (read-single (numbers_from bytes points_at (3 * h.points))))

  -- where it has a face it is a whole mesh
  whole : 0 < (scan_outcome bytes h).answer.faces → Whole h.unit (scan_outcome bytes h).points (scan_outcome bytes h).faces
  whole some =
      let sizes = counted (scan_call bytes h) in
      let file = good-file bytes h good in
      let faces_some : 0 < length (scan_outcome bytes h).faces = omega (arith, sizes.faces) in
      record {
        small_enough =
            record {
              points_by_three = omega (arith, sizes.points);
              faces_by_three = omega (arith, sizes.faces);
              points_most = omega (arith, fit.points_most, file.points_most);
              faces_most = omega (arith, fit.faces_most, file.faces_most);
            };
        points_some = fit.points_some faces_some;
        faces_some = faces_some;
        coordinates_good = rw (unit-of-number h.unit) at (outcome-finite (scan_call bytes h));
      }

-- The file that the program writes for a scan is thinned by it to the same mesh, with no fold: the same unit, the same points, the same faces. It must have
-- a face, which no refusal has: an empty mesh would be refused by 4.
pub written-again : (wanted : Wanted) (bytes : List ℕ) (h : Head) → scan_of bytes ≡ Ok h → 0 < (scan_outcome bytes h).answer.faces →
    reply_of wanted (scan_bytes (unit_number h.unit) (scan_outcome bytes h).points (scan_outcome bytes h).faces)
    ≡ mesh (mesh_bytes wanted h.unit 0 (scan_outcome bytes h).points (scan_outcome bytes h).faces) none_closed
unfolding reply_of reply_by numbers_from
written-again wanted bytes h good some =
    let o = scan_outcome bytes h in
    let there = whole bytes h good some in
    let back = reads-back (file-fits there) (each-single o.points (fit bytes h good).floats) in
    let head = rw (unit-of-number h.unit) at back.good in
    ap (reply_by wanted (scan_bytes (unit_number h.unit) o.points o.faces)) head ∙ rw (back.points_are, back.faces_are) (copied-told there wanted)
