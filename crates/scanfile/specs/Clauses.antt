-- What the reader's functions ask of what they are lent.
use Rattle.std.specs.Prelude.{ℕ, ◌+◌, ◌*◌, ◌≤◌, ◌<◌, ◌≡◌, List, true, length, Float}
use Rattle.units.specs.Units.{known_unit}
use Rattle.records.specs.Records.{size_at, next_at}
use Rattle.scanfile.specs.declared.Head.{Head}
use Rattle.scanfile.specs.Faults.{unit_in}
use Rattle.scanfile.specs.Layout.{second_at, third_at, third_after, end_after, margin_at}

-- the first three records are there, within the program's limits, the unit is known, and the third record begins at an offset
pub record ThreeThere (bytes : List ℕ) (third : ℕ) : Type 0 where
  pub third_stands : third ≡ third_at bytes
  pub third_most : third ≤ 1560
  pub size_most : size_at bytes third ≤ 3072
  pub there : next_at bytes third ≤ length bytes
  pub unit_known : known_unit (unit_in bytes) ≡ true

-- so many points are there, and room for them
pub record PointsThere (bytes : List ℕ) (points : ℕ) (out : List Float) : Type 0 where
  pub there : third_after points ≤ length bytes
  pub room : 3 * points ≤ length out

-- so many faces are there behind so many points, and room for them
pub record FacesThere (bytes : List ℕ) (points faces : ℕ) (out : List ℕ) : Type 0 where
  pub there : end_after points faces ≤ length bytes
  pub room : 3 * faces ≤ length out

-- so many numbers are there from an offset on, if any, and room for them
pub record NumbersThere (bytes : List ℕ) (at n : ℕ) (out : List ℕ) : Type 0 where
  pub there : 0 < n → at + 4 * n ≤ length bytes
  pub room : n ≤ length out

-- so many points of the margin are there, if any, behind so many points and faces, and room for them
pub record MarginThere (bytes : List ℕ) (points faces margin : ℕ) (out : List ℕ) : Type 0 where
  pub before : end_after points faces ≤ length bytes
  pub there : 0 < margin → margin_at points faces + 4 * margin ≤ length bytes
  pub room : margin ≤ length out

-- the first record is there, and the head is within the program's limits
pub record Tellable (bytes : List ℕ) (h : Head) : Type 0 where
  pub there : second_at ≤ length bytes
  pub points_most : h.points ≤ 128
  pub faces_most : h.faces ≤ 256
  pub margin_most : h.margin ≤ 128
