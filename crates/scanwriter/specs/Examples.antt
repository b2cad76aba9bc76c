-- The writer on small examples. The proofs compute them from the definitions.
use Rattle.std.specs.Prelude.{ℕ, ◌≡◌, refl, List, [], ◌∷◌, map, true, false, pos, Result, Ok, Err}
use Rattle.std.specs.Float.{nan, fin}
use Rattle.std.specs.Float.Ieee.{size, to_bits}
use Rattle.records.specs.Words.{as_fours}
use Rattle.records.specs.Records.{records_bytes}
use Rattle.scanwriter.specs.declared.WriteFault.{WriteFault}
use Rattle.scanwriter.specs.declared.WriteFault.TheVariants.{UnevenList, UnknownUnit, TooMany, ShortBuffer}
use Rattle.scanwriter.specs.Written.{scan_bytes, fault_number, fault_place, writing_of}

-- ---- what writing comes to

-- a unit, the lengths of the two lists and of the buffer
pub record Asked : Type 0 where
  pub unit : ℕ
  pub points : ℕ
  pub faces : ℕ
  pub room : ℕ

abbrev asked : ℕ → ℕ → ℕ → ℕ → Asked
asked unit points faces room = record { unit = unit; points = points; faces = faces; room = room }

-- what writing comes to, with the number and the place that a refusal is answered by
abbrev pub told : Result ℕ WriteFault → Result ℕ WriteFault × Result ℕ (ℕ × ℕ)
told (Ok size) = (Ok size, Ok size)
told (Err fault) = (Err fault, Err (fault_number fault, fault_place fault))

-- so many bytes written, and a refusal by a number at a place
abbrev written : ℕ → Result ℕ WriteFault × Result ℕ (ℕ × ℕ)
written size = (Ok size, Ok size)

abbrev refused : WriteFault → (number place : ℕ) → Result ℕ WriteFault × Result ℕ (ℕ × ℕ)
refused fault number place = (Err fault, Err (number, place))

pub examples : List (Asked × (Result ℕ WriteFault × Result ℕ (ℕ × ℕ)))
examples =
    -- the example square: a buffer exactly full, and one byte short
    (asked 1 15 12 138, written 138)
    ∷ (asked 1 15 12 137, refused ShortBuffer 31 0)
    -- an empty mesh, and the longest file
    ∷ (asked 2 0 0 30, written 30)
    ∷ (asked 2 384 768 4638, written 4638)
    -- a list's length; it comes before the unit
    ∷ (asked 1 14 12 138, refused UnevenList 1 0)
    ∷ (asked 0 15 11 0, refused UnevenList 1 0)
    -- the unit, of which no higher bit is dropped; it comes before too many
    ∷ (asked 0 15 12 138, refused UnknownUnit 24 0)
    ∷ (asked 65537 15 12 138, refused UnknownUnit 24 0)
    ∷ (asked 3 387 771 0, refused UnknownUnit 24 0)
    -- 129 points, which come before 257 faces; they before the buffer
    ∷ (asked 1 387 771 0, refused (TooMany 18) 27 18)
    ∷ (asked 1 384 771 0, refused (TooMany 1560) 27 1560)
    ∷ (asked 1 3 771 0, refused (TooMany 36) 27 36)
    ∷ (asked 1 384 768 4637, refused ShortBuffer 31 0)
    ∷ []

pub examples-hold : map (λ c. told (writing_of c.0.unit c.0.points c.0.faces c.0.room)) examples ≡ map (λ c. c.1) examples
unfolding writing_of examples
examples-hold = refl

-- ---- a file byte for byte

-- micrometre, the point (1.0, -0.0, NaN) and the face 7 4294967295 0
pub one_written : scan_bytes 2 (fin false 1 (pos 0) ∷ fin true 0 (pos 0) ∷ nan ∷ []) (7 ∷ 4294967295 ∷ 0 ∷ [])
    ≡ 12 ∷ 0 ∷ 0 ∷ 0 ∷ 1 ∷ 0
    -- unit, flags, ratio, limit
    ∷ 2 ∷ 0 ∷ 0 ∷ 0 ∷ 0 ∷ 0 ∷ 0 ∷ 0 ∷ 0 ∷ 0 ∷ 0 ∷ 0
    ∷ 12 ∷ 0 ∷ 0 ∷ 0 ∷ 2 ∷ 0
    -- 3f800000 80000000 7fc00000
    ∷ 0 ∷ 0 ∷ 0x80 ∷ 0x3f ∷ 0 ∷ 0 ∷ 0 ∷ 0x80 ∷ 0 ∷ 0 ∷ 0xc0 ∷ 0x7f
    ∷ 12 ∷ 0 ∷ 0 ∷ 0 ∷ 3 ∷ 0
    ∷ 7 ∷ 0 ∷ 0 ∷ 0 ∷ 0xff ∷ 0xff ∷ 0xff ∷ 0xff ∷ 0 ∷ 0 ∷ 0 ∷ 0
    ∷ []
unfolding records_bytes as_fours size to_bits
one_written = refl
