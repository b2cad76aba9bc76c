-- The writer: a mesh and its unit as a file of document 01 (document 02, wish 1).
use Rattle.std.specs.Prelude.{ℕ, ◌/◌, ◌%◌, ◌≡◌, List, [], ◌∷◌, map, not, ◌||◌, cond, ltb, eqb, length, Float, Result, Ok, Err}
use Rattle.std.proofs.Math.Option.{none}
use Rattle.std.specs.Float.{binary32}
use Rattle.std.specs.Float.Ieee.{to_bits}
use Rattle.lists.specs.Lists.{overlaid}
use Rattle.units.specs.Units.{known_unit}
use Rattle.scanfile.specs.Layout.{most_points, most_faces, second_at, third_after, end_after}
use Rattle.scanfile.specs.Files.{Contents, file_of}
use Rattle.scanwriter.specs.declared.WriteFault.{WriteFault}
use Rattle.scanwriter.specs.declared.WriteFault.TheVariants.{UnevenList, UnknownUnit, TooMany, ShortBuffer}

-- ---- the file

-- what it holds: the unit, no flags, ratio +0, limit +0; the points by their bits, a NaN as 7fc00000; the faces; no margin
abbrev pub scan_contents : ℕ → List Float → List ℕ → Contents
scan_contents unit points faces =
    record { unit = unit; flags = 0; ratio = 0; limit = 0; points = map (to_bits binary32) points; faces = faces; margin = none }

-- its bytes: kind 1, then points and faces
abbrev pub scan_bytes : ℕ → List Float → List ℕ → List ℕ
scan_bytes unit points faces = file_of (scan_contents unit points faces)

-- how many they are, of lists of so many numbers: 30 + 12V + 12F
abbrev pub scan_room : ℕ → ℕ → ℕ
scan_room points faces = end_after (points / 3) (faces / 3)

-- ---- what writing comes to, from the lengths of the lists and of the buffer

-- a refusal's number, and its place: the offset of a record, 0 where there is none
abbrev pub fault_number : WriteFault → ℕ
fault_number UnevenList = 1
fault_number UnknownUnit = 24
fault_number (TooMany offset) = 27
fault_number ShortBuffer = 31

abbrev pub fault_place : WriteFault → ℕ
fault_place UnevenList = 0
fault_place UnknownUnit = 0
fault_place (TooMany offset) = offset
fault_place ShortBuffer = 0

-- how many bytes are written, or why none is
unfoldable pub writing_of : (unit points faces room : ℕ) → Result ℕ WriteFault
writing_of unit points faces room =
    -- a list's length is no multiple of 3
    cond (not (eqb (points % 3) 0) || not (eqb (faces % 3) 0)) (Err UnevenList)
    -- the unit, at the first record's offset
    (cond (not (known_unit unit)) (Err UnknownUnit)
    -- too many points, at the second record's offset; too many faces, at the third's
    (cond (ltb most_points (points / 3)) (Err (TooMany second_at))
    (cond (ltb most_faces (faces / 3)) (Err (TooMany (third_after (points / 3))))
    -- the buffer is too short
    (cond (ltb room (scan_room points faces)) (Err ShortBuffer)
    (Ok (scan_room points faces))))))

-- ---- what it leaves

-- the buffer afterwards: the file over its beginning, or as it came
abbrev pub buffer_after : Result ℕ WriteFault → List ℕ → List ℕ → List ℕ
buffer_after (Ok n) file old = overlaid file old
buffer_after (Err fault) file old = old

-- the answer, and every byte of the buffer
pub record ScanWritten (unit : ℕ) (points : List Float) (faces old new : List ℕ) (r : Result ℕ WriteFault) : Type 0 where
  pub answered : r ≡ writing_of unit (length points) (length faces) (length old)
  pub written : new ≡ buffer_after (writing_of unit (length points) (length faces) (length old)) (scan_bytes unit points faces) old

-- an answer as three numbers: number, place, bytes written
abbrev pub three_of : Result ℕ WriteFault → List ℕ
three_of (Ok n) = 0 ∷ 0 ∷ n ∷ []
three_of (Err fault) = fault_number fault ∷ fault_place fault ∷ 0 ∷ []
