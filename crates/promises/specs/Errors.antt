-- The numbers of a pair that are compared on the way, and the pairs of which they are asked for.
use Rattle.std.specs.Prelude.{ℕ, ◌<◌, ◌≡◌, List, true, Float}
use Rattle.std.specs.Float.Ieee.Scale.{finite}
use Rattle.lists.specs.Lists.{count}
use Rattle.geometry.specs.Points.{middle}
use Rattle.placement.specs.declared.pair.Vertex.{Vertex}
use Rattle.placement.specs.Errors.{error_at}
use Rattle.placement.specs.Pairs.{pair_quadric, pair_length, pair_cost}
use Rattle.walk.specs.declared.Face.{Face}
use Rattle.walk.specs.Faces.{holds}

-- some live face holds a point
abbrev pub held : List Face → ℕ → Type 0
held faces x = 0 < count (holds x) faces

-- What is worked out for a pair is finite: its length, the errors at the three places of which one is taken where the solved point may not stand, and
-- its cost.
pub record PairFinite (bound : Float) (keep remove : Vertex) : Type 0 where
  pub length_known : finite (pair_length keep remove) ≡ true
  pub error_at_keep : finite (error_at (pair_quadric keep remove) keep.point) ≡ true
  pub error_at_remove : finite (error_at (pair_quadric keep remove) remove.point) ≡ true
  pub error_at_middle : finite (error_at (pair_quadric keep remove) (middle keep.point remove.point)) ≡ true
  pub cost_known : finite (pair_cost bound keep remove) ≡ true
