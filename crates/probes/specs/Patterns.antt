-- Operations of `geometry` and `placement` on bit patterns: patterns in, patterns out. Every NaN pattern is the one NaN, and is
-- written as 7fc00000 or 7ff8000000000000.
use Rattle.std.specs.Prelude.{ℕ, ◌+◌, ◌≡◌, Bool, List, [], ◌∷◌, get_or, Float, Option, is_some, unwrap_or}
use Rattle.std.specs.Float.{nan, binary32, binary64}
use Rattle.std.specs.Float.Ieee.{of_bits, to_bits}
use Rattle.geometry.specs.declared.Point.{Point}
use Rattle.geometry.specs.declared.Plane.{Plane}
use Rattle.geometry.specs.declared.Quadric.{Quadric}
use Rattle.geometry.specs.Constants.{nought}
use Rattle.geometry.specs.Planes.{plane_of}
use Rattle.geometry.specs.Quadrics.{zero_quadric}
use Rattle.placement.specs.declared.Kind.TheVariants.{Free}
use Rattle.placement.specs.declared.inverse.Rows.{Rows}
use Rattle.placement.specs.declared.pair.Vertex.{Vertex}
use Rattle.placement.specs.Errors.{error_at}
use Rattle.placement.specs.Inverses.{block_of, inverse}
use Rattle.placement.specs.Pairs.{pair_length, pair_place, pair_cost}

-- ---- patterns in

-- the number at a place of a list
abbrev pub at32 : List ℕ → ℕ → Float
at32 b i = of_bits binary32 (get_or b i 0)

abbrev pub at64 : List ℕ → ℕ → Float
at64 b i = of_bits binary64 (get_or b i 0)

-- three patterns from a place on
abbrev pub point_from : List ℕ → ℕ → Point
point_from b i = record { x = at32 b i; y = at32 b (i + 1); z = at32 b (i + 2) }

-- ten patterns from a place on
abbrev pub quadric_from : List ℕ → ℕ → Quadric
quadric_from b i =
    record {
      m11 = at64 b i;
      m12 = at64 b (i + 1);
      m13 = at64 b (i + 2);
      m14 = at64 b (i + 3);
      m22 = at64 b (i + 4);
      m23 = at64 b (i + 5);
      m24 = at64 b (i + 6);
      m33 = at64 b (i + 7);
      m34 = at64 b (i + 8);
      m44 = at64 b (i + 9);
    }

-- three patterns from a place on, as a row
abbrev pub row_from : List ℕ → ℕ → List Float
row_from b i = at64 b i ∷ at64 b (i + 1) ∷ at64 b (i + 2) ∷ []

-- a free point with its quadric: three of the patterns p, ten of the patterns q
abbrev pub vertex_from : List ℕ → ℕ → List ℕ → ℕ → Vertex
vertex_from p i q j = record { point = point_from p i; quadric = quadric_from q j; kind = Free }

-- a free point without a quadric
abbrev pub bare : Point → Vertex
bare p = record { point = p; quadric = zero_quadric; kind = Free }

-- ---- patterns out

abbrev pub point_bits : Point → List ℕ
point_bits p = to_bits binary32 p.x ∷ to_bits binary32 p.y ∷ to_bits binary32 p.z ∷ []

abbrev pub plane_bits : Plane → List ℕ
plane_bits p = to_bits binary64 p.a ∷ to_bits binary64 p.b ∷ to_bits binary64 p.c ∷ to_bits binary64 p.d ∷ []

-- the three entries of a row
abbrev pub row_bits : List Float → List ℕ
row_bits r = to_bits binary64 (get_or r 0 nan) ∷ to_bits binary64 (get_or r 1 nan) ∷ to_bits binary64 (get_or r 2 nan) ∷ []

-- ---- the operations

-- the plane of three points
unfoldable pub plane_pattern : List ℕ → List ℕ
plane_pattern b = plane_bits (plane_of (point_from b 0) (point_from b 3) (point_from b 6))

-- the error of a quadric at a point
unfoldable pub error_pattern : List ℕ → List ℕ → ℕ
error_pattern q p = to_bits binary64 (error_at (quadric_from q 0) (point_from p 0))

-- the inverse of three rows
unfoldable pub inverse_of : List ℕ → Option Rows
inverse_of b = inverse (block_of (row_from b 0) (row_from b 3) (row_from b 6))

-- what is shown of it: its rows, and zeros where there is none
abbrev pub rows_shown : Option Rows → Rows
rows_shown found =
    let zeros : List Float = nought ∷ nought ∷ nought ∷ [] in
    unwrap_or found (record { first = zeros; second = zeros; third = zeros })

-- what a call leaves: whether there is one, and the patterns of its rows
pub record Inverted (rows : List ℕ) (found : Bool) (first second third : List ℕ) : Type 0 where
  pub exists_is : found ≡ is_some (inverse_of rows)
  pub first_stands : first ≡ row_bits (rows_shown (inverse_of rows)).first
  pub second_is : second ≡ row_bits (rows_shown (inverse_of rows)).second
  pub third_stands : third ≡ row_bits (rows_shown (inverse_of rows)).third

-- two points without a quadric: the length of their pair
unfoldable pub length_pattern : List ℕ → ℕ
length_pattern b = to_bits binary32 (pair_length (bare (point_from b 0)) (bare (point_from b 3)))

-- a bound, and two points, each with its quadric: the place of their pair, and the error there
unfoldable pub place_pattern : ℕ → List ℕ → List ℕ → List ℕ
place_pattern bound p q = point_bits (pair_place (of_bits binary32 bound) (vertex_from p 0 q 0) (vertex_from p 3 q 10))

unfoldable pub cost_pattern : ℕ → List ℕ → List ℕ → ℕ
cost_pattern bound p q = to_bits binary64 (pair_cost (of_bits binary32 bound) (vertex_from p 0 q 0) (vertex_from p 3 q 10))
