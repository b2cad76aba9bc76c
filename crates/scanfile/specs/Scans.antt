-- What a file is: refused by number and place, or good, with its head (document 01, "The program and its file"; document 02, wish 2).
use Rattle.std.specs.Prelude.{ℕ, ◌/◌, ◌%◌, List, Bool, cond, ltb, eqb, length, Result, Ok, Err}
use Rattle.units.specs.Units.{unit_of}
use Rattle.placement.specs.Choices.{limit_of}
use Rattle.records.specs.Words.{four_bytes, float_at}
use Rattle.records.specs.Records.{size_at}
use Rattle.scanfile.specs.declared.Head.{Head}
use Rattle.scanfile.specs.declared.faults.Fault.{Fault}
use Rattle.scanfile.specs.declared.faults.Fault.TheVariants.{BytesFollow}
use Rattle.scanfile.specs.declared.faults.BadFile.{BadFile}
use Rattle.scanfile.specs.Layout.{ratio_at, limit_at, second_at, third_at, fourth_at, marked, last_end}
use Rattle.scanfile.specs.Faults.{fault_if, record_fault, unit_in, flags_in, options_fault, bad_file}

-- bit 0 of the flags: preserve; bit 1: a limit is present
abbrev pub preserve_in : List ℕ → Bool
preserve_in bytes = eqb (flags_in bytes % 2) 1

abbrev pub limited_in : List ℕ → Bool
limited_in bytes = eqb (flags_in bytes / 2 % 2) 1

-- how many points the margin names; none where there is no fourth record
abbrev pub margin_count : List ℕ → ℕ
margin_count bytes = cond (marked bytes) (size_at bytes (fourth_at bytes) / 4) 0

-- the head of a good file
abbrev pub head_of : List ℕ → Head
head_of bytes =
    record {
      unit = unit_of (unit_in bytes);
      preserve = preserve_in bytes;
      limit = limit_of (limited_in bytes) (float_at bytes limit_at);
      ratio = float_at bytes ratio_at;
      points = size_at bytes second_at / 12;
      faces = size_at bytes (third_at bytes) / 12;
      margin = margin_count bytes;
    }

-- what a file is: good, with its head, or refused
abbrev pub Scan : Type 0
Scan = Result Head BadFile

-- refused at a place where a test refuses; where it does not, what comes next
abbrev pub refuse : Result Unit Fault → ℕ → Scan → Scan
refuse (Ok none) place next = next
refuse (Err fault) place next = Err (bad_file fault place)

-- no spare byte after the last record
abbrev pub after_last : List ℕ → Scan
after_last bytes = refuse (fault_if (ltb (last_end bytes) (length bytes)) BytesFollow (Ok tt)) (last_end bytes) (Ok (head_of bytes))

-- what refuses the fourth record; nothing where there is none
abbrev pub fourth_fault : List ℕ → Result Unit Fault
fourth_fault bytes = cond (marked bytes) (record_fault bytes 4 (fourth_at bytes)) (Ok tt)

-- the fourth record, or none
abbrev pub after_third : List ℕ → Scan
after_third bytes = refuse (fourth_fault bytes) (fourth_at bytes) (after_last bytes)

-- kinds 1, 2 and 3 in that order, once each; then kind 4 or nothing
unfoldable pub scan_of : List ℕ → Scan
unfolding four_bytes record_fault options_fault
scan_of bytes =
    refuse (record_fault bytes 1 0) 0
    (refuse (options_fault bytes) 0
    (refuse (record_fault bytes 2 second_at) second_at
    (refuse (record_fault bytes 3 (third_at bytes)) (third_at bytes)
    (after_third bytes))))
