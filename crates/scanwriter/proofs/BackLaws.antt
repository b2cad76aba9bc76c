-- Reading what was written gives back the unit, the points and the faces; and when writing what was read gives the same bytes.
-- Assumes nothing.
use Prim.Native.Nat.{ℕ, suc, ◌+◌, ◌*◌, ◌/◌, ◌≤◌, ◌<◌}
use native.Mathlib.Omega.{arith}
use mathlib.Core.Path.{◌≡◌, refl, sym, ap, ◌∙◌}
use mathlib.Core.List.{List, [], ◌∷◌, map}
use mathlib.Core.Bool.{Bool, true, false}
use lib.Dec.{T}
use lib.ListN.{length, get_or, take, drop, length-map}
use lib.Seq.{take_at, drop_at}
use lib.Ieee.{Float, nan, binary32, fits, is_nan, of_bits, to_bits}
use lib.Ieee.Bits.{of_bits-to_bits, to_bits-of_bits}
use Rattle.lists.proofs.OverlayLaws.{length_over}
use Rattle.units.specs.Units.{unit_number}
use Rattle.units.proofs.UnitLaws.{number_known, number-of-unit}
use Rattle.records.specs.Words.{four_bytes, numbers_from}
use Rattle.records.proofs.WordLaws.{numbers-count, number_at, four-small}
use Rattle.scanfile.specs.declared.Head.{Head}
use Rattle.std.specs.Prelude.{Ok}
use Rattle.scanfile.specs.Layout.{points_at, faces_at}
use Rattle.scanfile.specs.Faults.{unit_in}
use Rattle.scanfile.specs.Scans.{scan_of}
use Rattle.scanfile.specs.Contents.{points_of, face_numbers_of}
use Rattle.scanfile.specs.Files.{Writable, contents_of, file_of}
use Rattle.scanfile.proofs.GoodLaws.{good-file, not-marked}
use Rattle.scanfile.proofs.FileLaws.{good-written, written-length, found, written-good, written-points, written-faces}
use Rattle.std.specs.Prelude.{Ok}
use Rattle.scanwriter.specs.Written.{scan_contents, scan_bytes, buffer_after, ScanWritten}
use Rattle.scanwriter.specs.Clauses.{ScanFits}
use Rattle.scanwriter.specs.Back.{ReadBack, written_again, ZeroOptions, NoMargin, OneNan}
use Rattle.scanwriter.proofs.WritingLaws as writing

-- ---- what fits is a file's contents

writable : {unit : ℕ} {points : List Float} {faces file : List ℕ} → ScanFits unit points faces file →
    Writable (scan_contents unit points faces) (length points / 3) (length faces / 3)
writable {points = points} fit =
    record {
      unit_known = fit.unit_known;
      flags_known = omega arith;
      points_count = length-map points (to_bits binary32) ∙ fit.points_by_three;
      points_most = fit.points_most;
      faces_count = fit.faces_by_three;
      faces_most = fit.faces_most;
      margin_most = omega arith;
    }

-- the bits of f32s are those floats again
bits_back : (points : List Float) → ((i : ℕ) → T (fits binary32 (get_or points i nan))) → map (of_bits binary32) (map (to_bits binary32) points) ≡ points
bits_back [] each = refl
bits_back (x ∷ points) each =
    let one : of_bits binary32 (to_bits binary32 x) ≡ x = of_bits-to_bits binary32 x (each 0) in
    let more = bits_back points (λ i. each (suc i)) in
    cc

-- ---- reading what was written

module _ {unit : ℕ} {points : List Float} {faces file : List ℕ} (fit : ScanFits unit points faces file) (floats : (i : ℕ) → T (fits binary32 (get_or points i nan))) where
  pub reads-back : ReadBack unit points faces (scan_bytes unit points faces)
  reads-back =
      let v = length points / 3 in
      let f = length faces / 3 in
      let c = scan_contents unit points faces in
      let w = writable fit in
      let count : length points ≡ 3 * v = fit.points_by_three in
      record {
        good = written-good c v f w;
        unit_is = number-of-unit unit fit.unit_known;
        bits_of_point = rw count (found c v f w (file_of c) refl).points;
        points_are = written-points c v f w ∙ bits_back points floats;
        faces_are = written-faces c v f w;
      }

-- ---- what the writer leaves where it answers so many bytes

module _ {unit : ℕ} {points : List Float} {faces old new : List ℕ} {n : ℕ} (done : ScanWritten unit points faces old new (Ok n)) where
  fit : ScanFits unit points faces old
  fit = (writing.fits unit points faces old n (sym done.answered)).0

  -- the file stands over the beginning
  pub written_over : new ≡ buffer_after (Ok n) (scan_bytes unit points faces) old
  written_over = rw (sym done.answered) at done.written

  -- and is so many bytes
  pub written_count : length (scan_bytes unit points faces) ≡ n
  written_count = written-length _ _ _ (writable fit) ∙ sym (writing.fits unit points faces old n (sym done.answered)).1

  -- the first n are the file
  pub written-bytes : take n new ≡ scan_bytes unit points faces
  written-bytes = ap (take n) written_over ∙ take_at (scan_bytes unit points faces) _ n written_count

  -- and those past the end are as they came
  pub past-unchanged : drop n new ≡ drop n old
  past-unchanged = ap (drop n) written_over ∙ drop_at (scan_bytes unit points faces) _ n written_count ∙ ap (λ (k : ℕ). drop k old) written_count

  -- the buffer is as written_count as it was, and has room for them
  pub written-within : n ≤ length new
  written-within =
      let room : length (scan_bytes unit points faces) ≤ length old = omega (arith, written_count, fit.room, (writing.fits unit points faces old n (sym done.answered)).1) in
      let same : length new ≡ length old = ap length written_over ∙ length_over (scan_bytes unit points faces) old room in
      omega (arith, written_count)

  -- what is written is read back
  pub written_back : ((i : ℕ) → T (fits binary32 (get_or points i nan))) → ReadBack unit points faces (take n new)
  written_back floats = rw written-bytes (reads-back fit floats)

-- ---- writing what was read

-- the one NaN's
nan_pattern : to_bits binary32 (of_bits binary32 0x7fc0_0000) ≡ 0x7fc0_0000
unfolding of_bits to_bits
nan_pattern = refl

-- a pattern that is no NaN's, or the one NaN's, is the pattern of its float
pattern-back : (n : ℕ) → n < 4294967296 → (is_nan (of_bits binary32 n) ≡ true → n ≡ 0x7fc0_0000) → to_bits binary32 (of_bits binary32 n) ≡ n
pattern-back n small one = by (is_nan (of_bits binary32 n)) refl
  where
    by : (b : Bool) → is_nan (of_bits binary32 n) ≡ b → to_bits binary32 (of_bits binary32 n) ≡ n
    by true e = rw (one e) nan_pattern
    by false e = to_bits-of_bits binary32 n small (rw e tt)

patterns-back : (ns : List ℕ) → ((i : ℕ) → i < length ns → to_bits binary32 (of_bits binary32 (get_or ns i 0)) ≡ get_or ns i 0) →
    map (to_bits binary32) (map (of_bits binary32) ns) ≡ ns
patterns-back [] each = refl
patterns-back (n ∷ ns) each =
    let first = each 0 (omega arith) in
    let more = patterns-back ns (λ i l. each (suc i) (omega arith)) in
    cc

module _ (bytes : List ℕ) (h : Head) (good : scan_of bytes ≡ Ok h) where
  -- only if kind 1 had those zeros and there was no kind 4
  pub same-only-if : written_again bytes h ≡ bytes → ZeroOptions bytes × NoMargin bytes
  same-only-if same =
      let v = h.points in
      let f = h.faces in
      let points = points_of bytes v in
      let faces = face_numbers_of bytes v f in
      let c = scan_contents (unit_number h.unit) points faces in
      let g = good-file bytes h good in
      let by_three : length points ≡ 3 * v = length-map (numbers_from bytes points_at (3 * v)) (of_bits binary32) ∙ numbers-count bytes points_at (3 * v) in
      let w : Writable c v f =
      record {
        unit_known = number_known h.unit;
        flags_known = omega arith;
        points_count = length-map points (to_bits binary32) ∙ by_three;
        points_most = g.points_most;
        faces_count = numbers-count bytes (faces_at v) (3 * f);
        faces_most = g.faces_most;
        margin_most = omega arith;
      } in
      let there = found c v f w bytes (sym same) in (
        record { flags = there.flags; ratio = there.ratio; limit = there.limit },
        record { absent = not-marked g there.tail.whole },
      )

  -- and then it does, where every NaN among the points is the one
  pub same_then : ((i : ℕ) → get_or bytes i 0 < 256) → ZeroOptions bytes → NoMargin bytes → OneNan bytes h.points → written_again bytes h ≡ bytes
  same_then small zeros unmarked one =
      let v = h.points in
      let f = h.faces in
      let numbers = numbers_from bytes points_at (3 * v) in
      let unit : unit_number h.unit ≡ unit_in bytes = sym (good-file bytes h good).unit_is in
      let count : length numbers ≡ 3 * v = numbers-count bytes points_at (3 * v) in
      let points : map (to_bits binary32) (map (of_bits binary32) numbers) ≡ numbers =
      patterns-back numbers
      (λ i l.
      let within : i < 3 * v = omega (arith, count) in
      rw (number_at bytes points_at (3 * v) i within)
      (pattern-back (four_bytes bytes (points_at + 4 * i)) (four-small bytes small (points_at + 4 * i)) (one.pattern i within))) in
      let held : scan_contents (unit_number h.unit) (points_of bytes v) (face_numbers_of bytes v f) ≡ contents_of bytes h =
      rw (unit, points, zeros.flags, zeros.ratio, zeros.limit, unmarked.absent) refl in
      ap file_of held ∙ sym (good-written bytes h good small)
