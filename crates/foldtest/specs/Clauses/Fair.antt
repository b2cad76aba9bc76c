-- What a fold does to one face (document 01, "A fold is allowed if").
use Rattle.std.specs.Prelude.{ℕ, ◌+◌, ◌*◌, ◌<◌, List, Bool, not, ◌&&◌, ◌||◌, cond, eqb, length, Float, ⊤, Result}
use Rattle.std.specs.Float.{binary32}
use Rattle.std.specs.Float.Ieee.{mul, lt}
use Rattle.geometry.specs.declared.Point.{Point}
use Rattle.walk.specs.declared.Reason.{Reason}
use Rattle.walk.specs.declared.Face.{Face}
use Rattle.walk.specs.Faces.{holds}
use Rattle.walk.specs.FoldTest.{asked, harm}
use Rattle.meaning.specs.Input.{point_at}
use Rattle.meaning.specs.Arithmetic.{tiny, hundredth, squashed_points, turned_points}

-- the three points of a face stand in the memory
pub record Placed (p : List Float) (face : Face) : Type 0 where
  pub a_in : 3 * face.a + 2 < length p
  pub b_in : 3 * face.b + 2 < length p
  pub c_in : 3 * face.c + 2 < length p

-- with f32 norms b before and a after: not `a > 1e-6*b`
abbrev pub squashed : Float → Float → Bool
squashed b a = not (lt (mul binary32 tiny b) a)

-- and, with the normals' dot: not dot `> 0.01*b*a`
abbrev pub turned : Float → Float → Float → Bool
turned b a dot = not (lt (mul binary32 (mul binary32 hundredth b) a) dot)

-- where a point is after the fold: keep and remove are at the place
abbrev pub moved_at : List Float → ℕ → ℕ → Point → ℕ → Point
moved_at p keep remove place x = cond (eqb x keep || eqb x remove) place (point_at p x)

-- a rule, asked of a face's three points before the fold and after it
abbrev pub rule_at : (Point → Point → Point → Point → Point → Point → Bool) → List Float → ℕ → ℕ → Point → Face → Bool
rule_at rule p keep remove place face =
    rule
    (point_at p face.a) (point_at p face.b) (point_at p face.c)
    (moved_at p keep remove place face.a) (moved_at p keep remove place face.b) (moved_at p keep remove place face.c)

-- whether the fold squashes a face, and whether it turns it over
abbrev pub squashed_at : List Float → ℕ → ℕ → Point → Face → Bool
squashed_at = rule_at squashed_points

abbrev pub turned_at : List Float → ℕ → ℕ → Point → Face → Bool
turned_at = rule_at turned_points

-- a face at one of the two points that doesn't hold the other one is harmed
abbrev pub harmed : List Float → ℕ → ℕ → Point → ℕ → Face → Bool
harmed p keep remove place other face = not (holds other face) && (squashed_at p keep remove place face || turned_at p keep remove place face)

-- what is told of the face of a number: of one that holds just one of the two whether it is squashed or turned over; no other face is asked
unfoldable pub harm_at : List Float → ℕ → ℕ → Point → ℕ → Face → Result ⊤ Reason
unfolding harm
harm_at p keep remove place number face =
    harm number (asked keep remove face) (squashed_at p keep remove place face) (turned_at p keep remove place face)
