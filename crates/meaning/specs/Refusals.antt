-- Which inputs are refused, and why: the example square of document 01 and small changes of it, as one list with one proof by computation.
use Rattle.std.specs.Prelude.{ℕ, ◌≡◌, refl, List, [], ◌∷◌, map, true, false, pos, negsuc, Float, Result, Ok, Err, Option, Some, None}
use Rattle.std.specs.Float.{binary32, nan, inf, fin}
use Rattle.std.specs.Float.Ieee.{is_nan, lt, le, eq, neg, of_bits}
use Rattle.lists.specs.Lists.{some, below, first_of}
use Rattle.meaning.specs.declared.Refusal.TheVariants.{ShortBuffer, BadRatio, BadLimit, BadCoordinate, PointOutside, PointTwice, BadMargin, UnknownUnit}
use Rattle.meaning.specs.declared.Task.TheVariants.{Copied, Admitted}
use Rattle.meaning.specs.Input.{Input}
use Rattle.bits.specs.Cut.{zero_float, one_float}
use Rattle.meaning.specs.declared.Task.{Task}
use Rattle.meaning.specs.declared.Refusal.{Refusal}
use Rattle.meaning.specs.Answers.{Verdict, number_of, place_of, face_verdict, margin_verdict, contents_verdict, verdict_of}

-- 2.0
abbrev two : Float
two = fin false 1 (pos 1)

-- 0.5
abbrev half : Float
half = fin false 1 (negsuc 0)

-- 1,024.0 and 1,048,576.0
abbrev most_millimetres : Float
most_millimetres = of_bits binary32 0x4480_0000

abbrev most_micrometres : Float
most_micrometres = of_bits binary32 0x4980_0000

-- the next f32 above each
abbrev above_millimetres : Float
above_millimetres = of_bits binary32 0x4480_0001

abbrev above_micrometres : Float
above_micrometres = of_bits binary32 0x4980_0001

-- -0.0
abbrev minus_zero : Float
minus_zero = fin true 0 (pos 0)

-- the square in a unit, with a margin, its last coordinate, its last two point numbers, its ratio, its limit and the room for f64
abbrev measured : ℕ → List ℕ → Float → ℕ → ℕ → Float → Option Float → ℕ → Input
measured unit margin z b c ratio limit f64s =
    let o = zero_float in
    record {
      points = o ∷ o ∷ o ∷ two ∷ o ∷ o ∷ two ∷ two ∷ o ∷ o ∷ two ∷ o ∷ one_float ∷ one_float ∷ z ∷ [];
      faces = 0 ∷ 1 ∷ 4 ∷ 1 ∷ 2 ∷ 4 ∷ 2 ∷ 3 ∷ 4 ∷ 3 ∷ b ∷ c ∷ [];
      margin = margin;
      rooms = record { points = 15; faces = 12; u32s = 208; f32s = 68; f64s = f64s };
      options = record { unit = unit; ratio = ratio; preserve = false; limit = limit };
    }

-- in millimetres
abbrev held : List ℕ → Float → ℕ → ℕ → Float → Option Float → ℕ → Input
held = measured 1

-- and without a margin
abbrev square : Float → ℕ → ℕ → Float → Option Float → ℕ → Input
square = held []

-- at ratio 0.5, without a limit: in a unit, with its last coordinate
abbrev reaching : ℕ → Float → Input
reaching unit z = measured unit [] z 0 4 half None 104

-- a verdict, with the number and the place that a refusal is answered by
abbrev pub told : Verdict → Verdict × Result Task (ℕ × ℕ)
told (Ok task) = (Ok task, Ok task)
told (Err why) = (Err why, Err (number_of why, place_of why))

abbrev fine : Task → Verdict × Result Task (ℕ × ℕ)
fine task = (Ok task, Ok task)

abbrev refused : Refusal → (number place : ℕ) → Verdict × Result Task (ℕ × ℕ)
refused why number place = (Err why, Err (number, place))

-- inputs, each with its verdict, and where it is refused the number and the place
abbrev pub cases : List (Input × (Verdict × Result Task (ℕ × ℕ)))
cases =
    (square zero_float 0 4 half None 104, fine Admitted)
    -- at the bound, ratio 1, limit 0
    ∷ (square most_millimetres 0 4 one_float (Some zero_float) 104, fine Admitted)
    -- one cell short; 3 comes before 5
    ∷ (square zero_float 0 4 nan None 103, refused ShortBuffer 3 0)
    -- 5 comes before 6, and 6 before 7
    ∷ (square zero_float 0 4 two (Some nan) 104, refused BadRatio 5 0)
    ∷ (square nan 0 4 half (Some nan) 104, refused BadLimit 6 0)
    -- the next float above the bound; 7 comes before ratio zero
    ∷ (square above_millimetres 0 4 zero_float None 104, refused (BadCoordinate 14) 7 14)
    ∷ (square (inf true) 0 4 half None 104, refused (BadCoordinate 14) 7 14)
    -- faces unchecked at ratio -0.0
    ∷ (square zero_float 5 5 minus_zero None 104, fine Copied)
    -- 8 comes before 9 in one face
    ∷ (square zero_float 5 5 half None 104, refused (PointOutside 3) 8 3)
    ∷ (square zero_float 3 4 half None 104, refused (PointTwice 3) 9 3)
    -- a margin of two points, and of all five
    ∷ (held (1 ∷ 4 ∷ []) zero_float 0 4 half None 104, fine Admitted)
    ∷ (held (0 ∷ 1 ∷ 2 ∷ 3 ∷ 4 ∷ []) zero_float 0 4 half None 104, fine Admitted)
    -- an entry out of range, two that are equal, two that descend; the first bad entry counts
    ∷ (held (5 ∷ []) zero_float 0 4 half None 104, refused (BadMargin 0) 12 0)
    ∷ (held (0 ∷ 2 ∷ 2 ∷ 9 ∷ []) zero_float 0 4 half None 104, refused (BadMargin 2) 12 2)
    ∷ (held (0 ∷ 3 ∷ 1 ∷ []) zero_float 0 4 half None 104, refused (BadMargin 2) 12 2)
    ∷ (held (1 ∷ 2 ∷ 4294967295 ∷ []) zero_float 0 4 half None 104, refused (BadMargin 2) 12 2)
    -- 9 comes before 12, and ratio zero too
    ∷ (held (5 ∷ []) zero_float 3 4 half None 104, refused (PointTwice 3) 9 3)
    ∷ (held (5 ∷ []) zero_float 0 4 minus_zero None 104, fine Copied)
    -- 1,024 millimetres and -1,024, and the next float beyond each
    ∷ (reaching 1 most_millimetres, fine Admitted)
    ∷ (reaching 1 above_millimetres, refused (BadCoordinate 14) 7 14)
    ∷ (reaching 1 (neg most_millimetres), fine Admitted)
    ∷ (reaching 1 (neg above_millimetres), refused (BadCoordinate 14) 7 14)
    -- micrometres: more than 1,024, then 1,048,576 and -1,048,576, and the next float beyond each
    ∷ (reaching 2 above_millimetres, fine Admitted)
    ∷ (reaching 2 most_micrometres, fine Admitted)
    ∷ (reaching 2 above_micrometres, refused (BadCoordinate 14) 7 14)
    ∷ (reaching 2 (neg most_micrometres), fine Admitted)
    ∷ (reaching 2 (neg above_micrometres), refused (BadCoordinate 14) 7 14)
    -- any other unit, of which no higher bit is dropped
    ∷ (reaching 0 zero_float, refused UnknownUnit 24 0)
    ∷ (reaching 3 zero_float, refused UnknownUnit 24 0)
    ∷ (reaching 65537 zero_float, refused UnknownUnit 24 0)
    ∷ (reaching 4294967295 zero_float, refused UnknownUnit 24 0)
    -- 6 comes before 24, and 24 before 7 and before ratio zero
    ∷ (measured 3 [] zero_float 0 4 half (Some nan) 104, refused BadLimit 6 0)
    ∷ (reaching 3 nan, refused UnknownUnit 24 0)
    ∷ (measured 0 [] zero_float 0 4 minus_zero None 104, refused UnknownUnit 24 0)
    ∷ []

-- the verdicts come out, and so do the numbers and places
pub refusals-hold : map (λ c. told (verdict_of c.0)) cases ≡ map (λ c. c.1) cases
unfolding verdict_of contents_verdict face_verdict margin_verdict some first_of below lt eq le neg is_nan of_bits
refusals-hold = refl
