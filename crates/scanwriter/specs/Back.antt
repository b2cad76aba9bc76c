-- What the round trips speak of: reading what was written, and writing what was read.
use Rattle.std.specs.Prelude.{ℕ, ◌+◌, ◌*◌, ◌/◌, ◌<◌, ◌≡◌, List, map, true, false, length, Float, Ok, None}
use Rattle.std.specs.Float.{binary32}
use Rattle.std.specs.Float.Ieee.{of_bits, to_bits, is_nan}
use Rattle.units.specs.declared.Unit.{Unit}
use Rattle.units.specs.Units.{unit_number, unit_of}
use Rattle.records.specs.Words.{four_bytes, float_at, numbers_from}
use Rattle.scanfile.specs.declared.Head.{Head}
use Rattle.scanfile.specs.Layout.{ratio_at, limit_at, points_at, marked}
use Rattle.scanfile.specs.Faults.{flags_in}
use Rattle.scanfile.specs.Scans.{scan_of}
use Rattle.scanfile.specs.Contents.{points_of, face_numbers_of}
use Rattle.scanwriter.specs.Written.{scan_bytes}

-- ---- reading what was written

-- the head of a written file: its unit, preserve off, no limit, ratio +0, no margin
abbrev pub written_head : (unit : Unit) (v f : ℕ) → Head
written_head unit v f =
    record { unit = unit; preserve = false; limit = None; ratio = of_bits binary32 0; points = v; faces = f; margin = 0 }

-- Bytes are a good file, in which the reader finds the unit whose number was written, the points and the faces. The points' bits are theirs, but for a NaN's, which are 7fc00000:
-- in the logic there is one NaN, and `to_bits` gives it that pattern.
pub record ReadBack (unit : ℕ) (points : List Float) (faces bytes : List ℕ) : Type 0 where
  pub good : scan_of bytes ≡ Ok (written_head (unit_of unit) (length points / 3) (length faces / 3))
  pub unit_is : unit_number (unit_of unit) ≡ unit
  pub bits_of_point : numbers_from bytes points_at (length points) ≡ map (to_bits binary32) points
  pub points_are : points_of bytes (length points / 3) ≡ points
  pub faces_are : face_numbers_of bytes (length points / 3) (length faces / 3) ≡ faces

-- ---- writing what was read

-- the file that is written of what a file with a head holds
abbrev pub written_again : List ℕ → Head → List ℕ
written_again bytes h = scan_bytes (unit_number h.unit) (points_of bytes h.points) (face_numbers_of bytes h.points h.faces)

-- kind 1 has no flags, ratio +0 and limit +0
pub record ZeroOptions (bytes : List ℕ) : Type 0 where
  pub flags : flags_in bytes ≡ 0
  pub ratio : four_bytes bytes ratio_at ≡ 0
  pub limit : four_bytes bytes limit_at ≡ 0

-- the file has no kind 4
pub record NoMargin (bytes : List ℕ) : Type 0 where
  pub absent : marked bytes ≡ false

-- every NaN among the v points has the pattern 7fc00000
pub record OneNan (bytes : List ℕ) (v : ℕ) : Type 0 where
  pub pattern : (i : ℕ) → i < 3 * v → is_nan (float_at bytes (points_at + 4 * i)) ≡ true → four_bytes bytes (points_at + 4 * i) ≡ 0x7fc0_0000
