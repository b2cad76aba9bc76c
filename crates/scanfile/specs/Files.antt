-- A file as it is written: the records of documents 01 and 02, from what stands in them.
use Rattle.std.specs.Prelude.{ℕ, ◌+◌, ◌*◌, ◌/◌, ◌%◌, ◌≤◌, ◌≡◌, List, [], ◌∷◌, ◌++◌, true, cond, eqb, length}
use Rattle.std.proofs.Math.Option.{Option, none, some}
use Rattle.std.specs.Float.{binary32}
use Rattle.std.specs.Float.Ieee.{of_bits}
use Rattle.units.specs.Units.{known_unit, unit_of}
use Rattle.placement.specs.Choices.{limit_of}
use Rattle.records.specs.Words.{four_bytes, numbers_from, as_two, as_four, as_fours}
use Rattle.records.specs.Records.{Record, records_bytes}
use Rattle.scanfile.specs.declared.Head.{Head}
use Rattle.scanfile.specs.Layout.{ratio_at, limit_at, points_at, end_after, margin_at, marked}
use Rattle.scanfile.specs.Faults.{unit_in, flags_in}
use Rattle.scanfile.specs.Contents.{face_numbers_of, margin_of}

-- what a file holds: floats by their patterns, three numbers for each point and face, and the margin's point numbers, where there are any
pub record Contents : Type 0 where
  pub unit : ℕ
  pub flags : ℕ
  pub ratio : ℕ
  pub limit : ℕ
  pub points : List ℕ
  pub faces : List ℕ
  pub margin : Option (List ℕ)

-- kind 1: unit u16, flags u16, ratio f32, limit f32
abbrev pub options_record : Contents → Record
options_record c = record { kind = 1; payload = as_two c.unit ++ (as_two c.flags ++ (as_four c.ratio ++ as_four c.limit)) }

-- kind 2: points
abbrev pub points_record : Contents → Record
points_record c = record { kind = 2; payload = as_fours c.points }

-- kind 3: faces
abbrev pub faces_record : Contents → Record
faces_record c = record { kind = 3; payload = as_fours c.faces }

-- kind 4: the margin
abbrev pub margin_record : List ℕ → Record
margin_record numbers = record { kind = 4; payload = as_fours numbers }

-- only where there is one
abbrev pub margin_records : Option (List ℕ) → List Record
margin_records none = []
margin_records (some numbers) = margin_record numbers ∷ []

-- in that order, once each
abbrev pub file_of : Contents → List ℕ
file_of c = records_bytes (options_record c ∷ points_record c ∷ faces_record c ∷ margin_records c.margin)

-- how many points a margin names
abbrev pub named : Option (List ℕ) → ℕ
named none = 0
named (some numbers) = length numbers

-- how long a file of v points, f faces and a margin is
abbrev pub end_with : ℕ → ℕ → Option (List ℕ) → ℕ
end_with v f none = end_after v f
end_with v f (some numbers) = margin_at v f + 4 * length numbers

-- what a good file may hold, with v points and f faces
pub record Writable (c : Contents) (v f : ℕ) : Type 0 where
  pub unit_known : known_unit c.unit ≡ true
  pub flags_known : c.flags ≤ 3
  pub points_count : length c.points ≡ 3 * v
  pub points_most : v ≤ 128
  pub faces_count : length c.faces ≡ 3 * f
  pub faces_most : f ≤ 256
  pub margin_most : named c.margin ≤ 128

-- its head
abbrev pub head_for : Contents → ℕ → ℕ → Head
head_for c v f =
    record {
      unit = unit_of c.unit;
      preserve = eqb (c.flags % 2) 1;
      limit = limit_of (eqb (c.flags / 2 % 2) 1) (of_bits binary32 c.limit);
      ratio = of_bits binary32 c.ratio;
      points = v;
      faces = f;
      margin = named c.margin;
    }

-- the margin of a file with a head, where there is a fourth record
abbrev pub margin_in : List ℕ → Head → Option (List ℕ)
margin_in bytes h = cond (marked bytes) (some (margin_of bytes h.points h.faces h.margin)) none

-- what a file with a head holds
abbrev pub contents_of : List ℕ → Head → Contents
contents_of bytes h =
    record {
      unit = unit_in bytes;
      flags = flags_in bytes;
      ratio = four_bytes bytes ratio_at;
      limit = four_bytes bytes limit_at;
      points = numbers_from bytes points_at (3 * h.points);
      faces = face_numbers_of bytes h.points h.faces;
      margin = margin_in bytes h;
    }
