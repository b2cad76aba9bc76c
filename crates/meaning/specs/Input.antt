-- What a call is given (document 01, "Input and lent memory"; document 02, wishes 2 and 3).
use Rattle.std.specs.Prelude.{ℕ, ◌+◌, ◌*◌, ◌/◌, List, length, get_or, Float}
use Rattle.std.specs.Float.{nan}
use Rattle.units.specs.Units.{unit_bound, unit_of}
use Rattle.geometry.specs.declared.Point.{Point}
use Rattle.meaning.specs.declared.Options.{Options}
use Rattle.meaning.specs.declared.Rooms.{Rooms}

-- What a caller hands over, but for the buffers' contents: the lists, the lengths of the lent buffers, and the options, with the unit among them.
-- The margin is a list of point numbers: those that must not move.
pub record Input : Type 0 where
  pub points : List Float
  pub faces : List ℕ
  pub margin : List ℕ
  pub rooms : Rooms
  pub options : Options

-- V
abbrev pub points_in : Input → ℕ
points_in i = length i.points / 3

-- F
abbrev pub faces_in : Input → ℕ
faces_in i = length i.faces / 3

-- the bound on a coordinate's size: its unit's
abbrev pub bound_in : Input → Float
bound_in i = unit_bound (unit_of i.options.unit)

-- the point number x of a list of coordinates, three to a point
abbrev pub point_at : List Float → ℕ → Point
point_at p x = record { x = get_or p (3 * x) nan; y = get_or p (3 * x + 1) nan; z = get_or p (3 * x + 2) nan }
