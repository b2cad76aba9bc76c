-- What the C interface tells of a file: a number, and nine cells.
use Rattle.std.specs.Prelude.{ℕ, List, [], ◌∷◌, cond, Float, is_some, Ok, Err, Option, Some, None}
use Rattle.units.specs.Units.{unit_number}
use Rattle.records.specs.Words.{four_bytes}
use Rattle.scanfile.specs.Layout.{ratio_at, limit_at}
use Rattle.scanfile.specs.Faults.{fault_number}
use Rattle.scanfile.specs.Scans.{Scan}

-- 0, or 21 to 27
abbrev pub number_of : Scan → ℕ
number_of (Ok h) = 0
number_of (Err b) = fault_number b.fault

-- 1 where there is a limit
abbrev pub limited : Option Float → ℕ
limited limit = cond (is_some limit) 1 0

-- the limit's pattern as the file has it, and 0 where there is no limit
abbrev pub limit_pattern : List ℕ → Option Float → ℕ
limit_pattern bytes None = 0
limit_pattern bytes (Some most) = four_bytes bytes limit_at

-- unit, preserve, limited, limit, ratio, points, faces, margin, place. The floats are told as the file has them, since a NaN has no pattern of its own.
-- A refused file has its place, and zeros before it.
unfoldable pub cells_of : List ℕ → Scan → List ℕ
unfolding four_bytes
cells_of bytes (Ok h) =
    unit_number h.unit ∷ cond h.preserve 1 0 ∷ limited h.limit ∷ limit_pattern bytes h.limit ∷ four_bytes bytes ratio_at ∷ h.points ∷ h.faces ∷ h.margin ∷ 0 ∷ []
cells_of bytes (Err b) = 0 ∷ 0 ∷ 0 ∷ 0 ∷ 0 ∷ 0 ∷ 0 ∷ 0 ∷ b.place ∷ []
