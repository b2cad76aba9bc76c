-- The example square of document 01 as a file, with a fourth record and without, and small changes of it: what each is, as one list with one proof
-- by computation.
use Rattle.std.specs.Prelude.{ℕ, ◌≡◌, refl, List, [], ◌∷◌, ◌++◌, map, true, false, take, set, pos, negsuc, Float, Result, Ok, Err, Some, None}
use Rattle.std.specs.Float.{nan, fin}
use Rattle.std.specs.Float.Ieee.{of_bits}
use Rattle.units.specs.declared.Unit.TheVariants.{Millimetre, Micrometre}
use Rattle.records.specs.Words.{numbers_from}
use Rattle.scanfile.specs.declared.Head.{Head}
use Rattle.scanfile.specs.declared.faults.Fault.{Fault}
use Rattle.scanfile.specs.declared.faults.Fault.TheVariants.{CutShort, OtherKind, WrongSize, UnknownUnit, BytesFollow, UnknownFlag, TooMany}
use Rattle.scanfile.specs.Faults.{fault_number, bad_file}
use Rattle.scanfile.specs.Scans.{Scan, scan_of}
use Rattle.scanfile.specs.Contents.{points_of, face_numbers_of, margin_of}

-- 0.0, 1.0, 2.0 and 0.5
abbrev o : Float
o = fin false 0 (pos 0)

abbrev one : Float
one = fin false 1 (pos 0)

abbrev two : Float
two = fin false 1 (pos 1)

abbrev half : Float
half = fin false 1 (negsuc 0)

-- five points, four faces, unit 1, no flags, ratio 0.5
pub square : List ℕ
square =
    12 ∷ 0 ∷ 0 ∷ 0 ∷ 1 ∷ 0
    ∷ 1 ∷ 0 ∷ 0 ∷ 0 ∷ 0 ∷ 0 ∷ 0 ∷ 0x3f ∷ 0 ∷ 0 ∷ 0 ∷ 0
    ∷ 60 ∷ 0 ∷ 0 ∷ 0 ∷ 2 ∷ 0
    ∷ 0 ∷ 0 ∷ 0 ∷ 0 ∷ 0 ∷ 0 ∷ 0 ∷ 0 ∷ 0 ∷ 0 ∷ 0 ∷ 0
    ∷ 0 ∷ 0 ∷ 0 ∷ 0x40 ∷ 0 ∷ 0 ∷ 0 ∷ 0 ∷ 0 ∷ 0 ∷ 0 ∷ 0
    ∷ 0 ∷ 0 ∷ 0 ∷ 0x40 ∷ 0 ∷ 0 ∷ 0 ∷ 0x40 ∷ 0 ∷ 0 ∷ 0 ∷ 0
    ∷ 0 ∷ 0 ∷ 0 ∷ 0 ∷ 0 ∷ 0 ∷ 0 ∷ 0x40 ∷ 0 ∷ 0 ∷ 0 ∷ 0
    ∷ 0 ∷ 0 ∷ 0x80 ∷ 0x3f ∷ 0 ∷ 0 ∷ 0x80 ∷ 0x3f ∷ 0 ∷ 0 ∷ 0 ∷ 0
    ∷ 48 ∷ 0 ∷ 0 ∷ 0 ∷ 3 ∷ 0
    ∷ 0 ∷ 0 ∷ 0 ∷ 0 ∷ 1 ∷ 0 ∷ 0 ∷ 0 ∷ 4 ∷ 0 ∷ 0 ∷ 0
    ∷ 1 ∷ 0 ∷ 0 ∷ 0 ∷ 2 ∷ 0 ∷ 0 ∷ 0 ∷ 4 ∷ 0 ∷ 0 ∷ 0
    ∷ 2 ∷ 0 ∷ 0 ∷ 0 ∷ 3 ∷ 0 ∷ 0 ∷ 0 ∷ 4 ∷ 0 ∷ 0 ∷ 0
    ∷ 3 ∷ 0 ∷ 0 ∷ 0 ∷ 0 ∷ 0 ∷ 0 ∷ 0 ∷ 4 ∷ 0 ∷ 0 ∷ 0
    ∷ []

-- the square's head, with a margin of so many points
abbrev head_with : ℕ → Head
head_with m = record { unit = Millimetre; preserve = false; limit = None; ratio = half; points = 5; faces = 4; margin = m }

-- what a file is, with the number and the place that a refusal is answered by
abbrev pub told : Scan → Scan × Result Head (ℕ × ℕ)
told (Ok head) = (Ok head, Ok head)
told (Err file) = (Err file, Err (fault_number file.fault, file.place))

-- a good file, and one that is refused by a number at a place
abbrev good : Head → Scan × Result Head (ℕ × ℕ)
good head = (Ok head, Ok head)

abbrev bad : Fault → (number place : ℕ) → Scan × Result Head (ℕ × ℕ)
bad fault number place = (Err (bad_file fault place), Err (number, place))

-- a head of kind 4, with a payload of low + 256 * high bytes
abbrev fourth : ℕ → ℕ → List ℕ
fourth low high = low ∷ high ∷ 0 ∷ 0 ∷ 4 ∷ 0 ∷ []

-- the square with points 0 and 2 as its margin
pub margin_square : List ℕ
unfolding square
margin_square = square ++ (fourth 8 0 ++ (0 ∷ 0 ∷ 0 ∷ 0 ∷ 2 ∷ 0 ∷ 0 ∷ 0 ∷ []))

-- a file and what it is, and where it is refused the number and the place
pub examples : List (List ℕ × (Scan × Result Head (ℕ × ℕ)))
unfolding square margin_square
examples =
    (square, good (head_with 0))
    -- the third record's payload is cut short, the second's head, the second's payload
    ∷ (take 137 square, bad CutShort 21 84)
    ∷ (take 23 square, bad CutShort 21 18)
    ∷ (take 83 square, bad CutShort 21 18)
    ∷ ([], bad CutShort 21 0)
    -- the second record says kind 3
    ∷ (set square 22 3, bad OtherKind 22 18)
    -- the first record is 24 long, the second no multiple of 12
    ∷ (set square 0 24, bad WrongSize 23 0)
    ∷ (set square 18 61, bad WrongSize 23 18)
    -- unit 3; unit 3 comes before flag bit 2
    ∷ (set square 6 3, bad UnknownUnit 24 0)
    ∷ (set (set square 6 3) 8 4, bad UnknownUnit 24 0)
    -- one byte more, and two
    ∷ (square ++ 0 ∷ [], bad BytesFollow 25 138)
    ∷ (square ++ 7 ∷ 7 ∷ [], bad BytesFollow 25 138)
    -- flag bit 2
    ∷ (set square 8 4, bad UnknownFlag 26 0)
    -- 129 points, 257 faces; 27 comes before the cut payload, as it is here
    ∷ (set (set square 18 0x0c) 19 6, bad TooMany 27 18)
    ∷ (set (set square 84 0x0c) 85 12, bad TooMany 27 84)
    -- the largest multiple of 12 below 2^32
    ∷ (set (set (set (set square 18 0xfc) 19 0xff) 20 0xff) 21 0xff, bad TooMany 27 18)
    -- both flags, with the limit 2.0, and micrometre
    ∷ (
      set (set (set square 8 3) 17 0x40) 6 2,
      good (record { unit = Micrometre; preserve = true; limit = Some two; ratio = half; points = 5; faces = 4; margin = 0 }),
    )
    -- a limit without its flag is not looked at
    ∷ (set square 17 0x40, good (head_with 0))
    -- a ratio that is NaN is for the thinner to refuse
    ∷ (set (set square 12 0xc0) 13 0x7f, good (record { unit = Millimetre; preserve = false; limit = None; ratio = nan; points = 5; faces = 4; margin = 0 }))
    -- a margin of two points, and one that names none
    ∷ (margin_square, good (head_with 2))
    ∷ (square ++ fourth 0 0, good (head_with 0))
    -- a tail of five bytes of a kind 4 head, and of a whole head of kind 3, 5 and 1028, whose low byte is 4
    ∷ (take 143 margin_square, bad BytesFollow 25 138)
    ∷ (set margin_square 142 3, bad BytesFollow 25 138)
    ∷ (set margin_square 142 5, bad BytesFollow 25 138)
    ∷ (set margin_square 143 4, bad BytesFollow 25 138)
    -- kind 4 is no multiple of 4
    ∷ (set margin_square 138 6, bad WrongSize 23 138)
    -- 129 points, and the largest multiple of 4 below 2^32; 27 comes before the cut payload, as it is here
    ∷ (square ++ fourth 4 2, bad TooMany 27 138)
    ∷ (set (set (set (set margin_square 138 0xfc) 139 0xff) 140 0xff) 141 0xff, bad TooMany 27 138)
    -- 128 points, and two, cut short
    ∷ (square ++ fourth 0 2, bad CutShort 21 138)
    ∷ (take 151 margin_square, bad CutShort 21 138)
    -- one byte after kind 4, and a second kind 4
    ∷ (margin_square ++ 0 ∷ [], bad BytesFollow 25 152)
    ∷ (margin_square ++ fourth 0 0, bad BytesFollow 25 152)
    ∷ []

pub examples-hold : map (λ c. told (scan_of c.0)) examples ≡ map (λ c. c.1) examples
unfolding scan_of examples of_bits
examples-hold = refl

-- the square's points and faces, and its margin
pub square-points : points_of square 5 ≡ o ∷ o ∷ o ∷ two ∷ o ∷ o ∷ two ∷ two ∷ o ∷ o ∷ two ∷ o ∷ one ∷ one ∷ o ∷ []
unfolding numbers_from square of_bits
square-points = refl

pub square-faces : face_numbers_of square 5 4 ≡ 0 ∷ 1 ∷ 4 ∷ 1 ∷ 2 ∷ 4 ∷ 2 ∷ 3 ∷ 4 ∷ 3 ∷ 0 ∷ 4 ∷ []
unfolding numbers_from square
square-faces = refl

pub square-margin : margin_of margin_square 5 4 2 ≡ 0 ∷ 2 ∷ []
unfolding numbers_from margin_square
square-margin = refl
