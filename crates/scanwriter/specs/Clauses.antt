-- What the function that writes the three records asks.
use Rattle.std.specs.Prelude.{ℕ, ◌*◌, ◌/◌, ◌≤◌, ◌≡◌, List, true, length, Float}
use Rattle.units.specs.Units.{known_unit}
use Rattle.scanfile.specs.Layout.{most_points, most_faces}
use Rattle.scanwriter.specs.Written.{scan_room}

-- three numbers to each point and face, a unit of document 01, no more than a file may hold, and room for them
pub record ScanFits (unit : ℕ) (points : List Float) (faces file : List ℕ) : Type 0 where
  pub points_by_three : length points ≡ 3 * (length points / 3)
  pub faces_by_three : length faces ≡ 3 * (length faces / 3)
  pub unit_known : known_unit unit ≡ true
  pub points_most : length points / 3 ≤ most_points
  pub faces_most : length faces / 3 ≤ most_faces
  pub room : scan_room (length points) (length faces) ≤ length file
