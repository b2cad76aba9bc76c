-- Document 01's arithmetic, as the rules that the walk goes by.
use Rattle.std.specs.Prelude.{ℕ, ◌+◌, ◌-◌, ◌^◌, suc, Bool, not, ℤ, pos, negsuc, Float, Option}
use Rattle.std.specs.Float.{binary32}
use Rattle.std.specs.Float.Ieee.{mul, lt, of_bits}
use Rattle.bits.specs.Order.{float_key}
use Rattle.geometry.specs.declared.Point.{Point}
use Rattle.geometry.specs.Points.{dot, norm, normal}
use Rattle.geometry.specs.Constants.{nought}
use Rattle.geometry.specs.Quadrics.{zero_quadric}
use Rattle.placement.specs.declared.Kind.TheVariants.{Free}
use Rattle.placement.specs.declared.pair.Vertex.{Vertex}
use Rattle.placement.specs.Pairs.{pair_quadric, pair_place, pair_cost, eligible}
use Rattle.walk.specs.Faces.{Rules}

-- a signed 64-bit key counted from the lowest one
abbrev pub from_lowest : ℤ → ℕ
from_lowest (pos n) = 2 ^ 63 + n
from_lowest (negsuc n) = 2 ^ 63 - suc n

-- 1e-6 and 0.01, as f32
abbrev pub tiny : Float
tiny = of_bits binary32 0x3586_37bd

abbrev pub hundredth : Float
hundredth = of_bits binary32 0x3c23_d70a

-- of a face's normals before and after, with f32 norms b and a: squashed where not `a > 1e-6*b`. A norm that is no number passes no test.
abbrev pub squashed_normals : Point → Point → Bool
squashed_normals before after = not (lt (mul binary32 tiny (norm before)) (norm after))

-- and turned over where not dot `> 0.01*b*a`
abbrev pub turned_normals : Point → Point → Bool
turned_normals before after = not (lt (mul binary32 (mul binary32 hundredth (norm before)) (norm after)) (dot before after))

-- of a face's three points before a fold and after it
unfoldable pub squashed_points : Point → Point → Point → Point → Point → Point → Bool
squashed_points a b c a' b' c' = squashed_normals (normal a b c) (normal a' b' c')

unfoldable pub turned_points : Point → Point → Point → Point → Point → Point → Bool
turned_points a b c a' b' c' = turned_normals (normal a b c) (normal a' b' c')

-- what keep carries after a fold: the pair's place and quadric, and its own kind
unfoldable pub merged_vertex : Float → Vertex → Vertex → Vertex
merged_vertex bound keep remove = record { point = pair_place bound keep remove; quadric = pair_quadric keep remove; kind = keep.kind }

-- the rules for a length limit and a bound on a coordinate's size
unfoldable pub rules_of : Option Float → Float → Rules Vertex
unfolding squashed_points turned_points merged_vertex
rules_of limit bound =
    record {
      rank = λ keep remove. from_lowest (float_key (pair_cost bound keep remove));
      eligible = eligible limit bound;
      merged = merged_vertex bound;
      squashed = λ a b c a' b' c'. squashed_points a.point b.point c.point a'.point b'.point c'.point;
      turned = λ a b c a' b' c'. turned_points a.point b.point c.point a'.point b'.point c'.point;
      blank = record { point = record { x = nought; y = nought; z = nought }; quadric = zero_quadric; kind = Free };
    }
