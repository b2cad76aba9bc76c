-- What a record is refused by: document 01, "File refusals, per record in order"; for kind 4 document 02, wish 2.
use Rattle.std.specs.Prelude.{ℕ, ◌+◌, ◌*◌, ◌%◌, List, Bool, not, cond, ltb, eqb, length, Result, Ok, Err}
use Rattle.units.specs.Units.{known_unit}
use Rattle.records.specs.Words.{two_bytes, four_bytes}
use Rattle.records.specs.Records.{head_length, size_at, kind_at, next_at}
use Rattle.scanfile.specs.declared.faults.Fault.{Fault}
use Rattle.scanfile.specs.declared.faults.Fault.TheVariants.{CutShort, OtherKind, WrongSize, UnknownUnit, BytesFollow, UnknownFlag, TooMany}
use Rattle.scanfile.specs.declared.faults.BadFile.{BadFile}
use Rattle.scanfile.specs.Layout.{most_points, most_faces, most_margin, unit_at, flags_at}

-- the numbers that document 01 gives
abbrev pub fault_number : Fault → ℕ
fault_number CutShort = 21
fault_number OtherKind = 22
fault_number WrongSize = 23
fault_number UnknownUnit = 24
fault_number BytesFollow = 25
fault_number UnknownFlag = 26
fault_number TooMany = 27

-- refused by a fault where a test holds; where it does not, what comes next
abbrev pub fault_if : Bool → Fault → Result Unit Fault → Result Unit Fault
fault_if test fault next = cond test (Err fault) next

-- 23: kind 1 not 12 long, kind 4 no multiple of 4, or another no multiple of 12
abbrev pub wrong_size : ℕ → ℕ → Bool
wrong_size kind size =
    cond (eqb kind 1) (not (eqb size 12))
    (cond (eqb kind 4) (not (eqb (size % 4) 0))
    (not (eqb (size % 12) 0)))

-- 27: at most 128 points and 256 faces, of 12 bytes each, and 128 points of the margin, of 4 bytes each (kind 1 is 12 long by 23)
abbrev pub most_of : ℕ → ℕ
most_of kind = cond (eqb kind 2) (most_points * 12) (cond (eqb kind 4) (most_margin * 4) (most_faces * 12))

-- what refuses the record at an offset, which is to be of a kind
unfoldable pub record_fault : List ℕ → ℕ → ℕ → Result Unit Fault
unfolding four_bytes
record_fault bytes kind at =
    -- head cut short or absent
    fault_if (ltb (length bytes) (at + head_length)) CutShort
    -- wrong kind
    (fault_if (not (eqb (kind_at bytes at) kind)) OtherKind
    (fault_if (wrong_size kind (size_at bytes at)) WrongSize
    -- too many points or faces
    (fault_if (ltb (most_of kind) (size_at bytes at)) TooMany
    -- payload cut short
    (fault_if (ltb (length bytes) (next_at bytes at)) CutShort
    (Ok tt)))))

-- the unit's number and the flags
abbrev pub unit_in : List ℕ → ℕ
unit_in bytes = two_bytes bytes unit_at

abbrev pub flags_in : List ℕ → ℕ
flags_in bytes = two_bytes bytes flags_at

-- what refuses the first record's payload: the unit, or other flag bits than 0 and 1
unfoldable pub options_fault : List ℕ → Result Unit Fault
options_fault bytes =
    fault_if (not (known_unit (unit_in bytes))) UnknownUnit
    (fault_if (ltb 3 (flags_in bytes)) UnknownFlag
    (Ok tt))

-- ---- refused at a place

abbrev pub bad_file : Fault → ℕ → BadFile
bad_file fault place = record { fault = fault; place = place }

abbrev pub at_place : ℕ → Result Unit Fault → Result Unit BadFile
at_place place (Ok none) = Ok none
at_place place (Err fault) = Err (bad_file fault place)
