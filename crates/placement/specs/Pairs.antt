-- A pair (keep, remove) (document 01, "A pair (keep, remove) has q").
use Rattle.std.specs.Prelude.{Bool, not, ◌&&◌, ◌||◌, Float, Option}
use Rattle.std.specs.Bool.{then_some}
use Rattle.std.specs.Float.Ieee.Scale.{finite}
use Rattle.geometry.specs.declared.Point.{Point}
use Rattle.geometry.specs.declared.Quadric.{Quadric}
use Rattle.geometry.specs.Points.{difference, norm}
use Rattle.geometry.specs.Quadrics.{quadric_sum}
use Rattle.placement.specs.declared.place.Choice.{Choice}
use Rattle.placement.specs.declared.pair.Vertex.{Vertex}
use Rattle.placement.specs.Choices.{fixed, above_limit}
use Rattle.placement.specs.Errors.{error_at}
use Rattle.placement.specs.Places.{with_error, place_of}

-- q, keep's quadric plus remove's
unfoldable pub pair_quadric : Vertex → Vertex → Quadric
pair_quadric keep remove = quadric_sum keep.quadric remove.quadric

-- its length, the norm of keep's point less remove's
unfoldable pub pair_length : Vertex → Vertex → Float
pair_length keep remove = norm (difference keep.point remove.point)

-- the place of a pair for a length that is known, with the error there
unfoldable pub pair_choice : Float → Float → Vertex → Vertex → Choice
pair_choice bound length keep remove =
    with_error (pair_quadric keep remove) (place_of bound length (pair_quadric keep remove) keep.point remove.point)

-- its place
unfoldable pub pair_place : Float → Vertex → Vertex → Point
pair_place bound keep remove = place_of bound (pair_length keep remove) (pair_quadric keep remove) keep.point remove.point

-- its cost, the error at its place
unfoldable pub pair_cost : Float → Vertex → Vertex → Float
pair_cost bound keep remove = error_at (pair_quadric keep remove) (pair_place bound keep remove)

-- neither is fixed, its length isn't above the limit, and its cost is finite
unfoldable pub eligible : Option Float → Float → Vertex → Vertex → Bool
eligible limit bound keep remove =
    (not (fixed keep.kind || fixed remove.kind) && not (above_limit (pair_length keep remove) limit)) && finite (pair_cost bound keep remove)

-- the place and the cost of an eligible pair
unfoldable pub pair_candidate : Option Float → Float → Vertex → Vertex → Option Choice
pair_candidate limit bound keep remove =
    then_some (eligible limit bound keep remove) (record { place = pair_place bound keep remove; cost = pair_cost bound keep remove })
