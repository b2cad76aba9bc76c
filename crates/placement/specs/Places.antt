-- Where a pair's point goes (document 01, "Its place is the solved point").
use Rattle.std.specs.Prelude.{Bool, ◌&&◌, cond, List, get_or, Float, Option, Some, None, option_map, unwrap_or}
use Rattle.std.specs.Bool.{then_some}
use Rattle.std.specs.Int.Signed.{lt_z}
use Rattle.std.specs.Float.{nan, binary32, binary64}
use Rattle.std.specs.Float.Ieee.{add, mul, neg, lt, le, of_bits}
use Rattle.bits.specs.Narrow.{narrowed}
use Rattle.bits.specs.Order.{float_key}
use Rattle.geometry.specs.declared.Point.{Point}
use Rattle.geometry.specs.declared.Quadric.{Quadric}
use Rattle.geometry.specs.Points.{difference, norm, middle, all_finite}
use Rattle.placement.specs.declared.inverse.Block.{Block}
use Rattle.placement.specs.declared.inverse.Rows.{Rows}
use Rattle.placement.specs.declared.place.Choice.{Choice}
use Rattle.placement.specs.Inverses.{inverse}
use Rattle.placement.specs.Errors.{error_at}

-- ---- the solved point

-- m, the upper left 3x3 of q
abbrev pub upper_left : Quadric → Block
upper_left q =
    record {
      m11 = q.m11;
      m12 = q.m12;
      m13 = q.m13;
      m21 = q.m12;
      m22 = q.m22;
      m23 = q.m23;
      m31 = q.m13;
      m32 = q.m23;
      m33 = q.m33;
    }

-- a row with each entry negated, times the first three of q's last column, narrowed
abbrev pub solved_part : List Float → Quadric → Float
solved_part row q =
    narrowed
    (add binary64
    (add binary64 (mul binary64 (neg (get_or row 0 nan)) q.m14) (mul binary64 (neg (get_or row 1 nan)) q.m24))
    (mul binary64 (neg (get_or row 2 nan)) q.m34))

-- an inverse's rows times the column
abbrev pub solved_by : Quadric → Rows → Point
solved_by q rows = record { x = solved_part rows.first q; y = solved_part rows.second q; z = solved_part rows.third q }

-- the solved point, if there is an inverse
unfoldable pub solved : Quadric → Option Point
solved q = option_map (solved_by q) (inverse (upper_left q))

-- ---- whether it may stand

-- 2^-23 and 2.0
abbrev pub shortest : Float
shortest = of_bits binary32 0x3400_0000

abbrev pub two : Float
two = of_bits binary32 0x4000_0000

-- max(length, 2^-23), as Rust has it: of a NaN and a number the number
abbrev pub longer_of : Float → Float
longer_of length = cond (lt shortest length) length shortest

-- at most the bound in size
abbrev pub is_in_size : Float → Float → Bool
is_in_size bound x = le (neg bound) x && le x bound

-- every part is finite and at most the bound in size, and the distance from keep is at most `2.0 * max(length, 2^-23)`
unfoldable pub stands : Float → Float → Point → Point → Bool
stands bound length keep p =
    (((all_finite p && is_in_size bound p.x) && is_in_size bound p.y) && is_in_size bound p.z)
    && le (norm (difference p keep)) (mul binary32 two (longer_of length))

-- a solved point that may stand, or none
unfoldable pub tested : Float → Float → Point → Option Point → Option Point
tested bound length keep (Some p) = then_some (stands bound length keep p) p
tested bound length keep None = None

-- ---- what is taken where it may not

-- a place with the error there
abbrev pub with_error : Quadric → Point → Choice
with_error q p = record { place = p; cost = error_at q p }

-- a is below b in the order of costs
abbrev pub cost_below : Float → Float → Bool
cost_below a b = lt_z (float_key a) (float_key b)

-- of two points, the one with the least error, the first on equals
unfoldable pub cheaper : Quadric → Point → Point → Point
cheaper q a b = cond (cost_below (error_at q b) (error_at q a)) b a

-- the same of two points whose errors are at hand
abbrev pub cheaper_choice : Choice → Choice → Choice
cheaper_choice a b = cond (cost_below b.cost a.cost) b a

-- keep's point, remove's point or `(pa+pb)*0.5`: least error by the order of costs, the earliest on equals
unfoldable pub fallback : Quadric → Point → Point → Point
fallback q keep remove = cheaper q (cheaper q keep remove) (middle keep remove)

-- ---- the place

-- the place of a pair with the quadric q and this length: the solved point where it may stand
unfoldable pub place_of : Float → Float → Quadric → Point → Point → Point
place_of bound length q keep remove = unwrap_or (tested bound length keep (solved q)) (fallback q keep remove)
