-- Faces, and what follows from them alone: neighbours, shared faces, common neighbours, border edges and points (document 01, "Pairs, folds, ends").
-- Faces are a list: the live ones, in face order. Nothing here speaks of how they are stored or visited.
use Rattle.std.specs.Prelude.{ℕ, ◌+◌, ◌*◌, List, map, Bool, not, ◌&&◌, ◌||◌, cond, ltb, eqb, get_or}
use Rattle.walk.specs.declared.Face.{Face}
use Rattle.walk.specs.declared.Pair.{Pair}
use Rattle.lists.specs.Lists.{count, some, below}

-- whether a face holds a point, and two points
abbrev pub holds : ℕ → Face → Bool
holds x f = eqb x f.a || eqb x f.b || eqb x f.c

abbrev pub both : ℕ → ℕ → Face → Bool
both x y f = holds x f && holds y f

-- the faces that hold both of two points, counted
abbrev pub shared : List Face → ℕ → ℕ → ℕ
shared faces x y = count (both x y) faces

-- y is a neighbour of x: another point, and some face holds both
abbrev pub neighbour : List Face → ℕ → ℕ → Bool
neighbour faces x y = not (eqb x y) && ltb 0 (shared faces x y)

-- the points below v that are neighbours of both, counted
abbrev pub common : ℕ → List Face → ℕ → ℕ → ℕ
common v faces x y = count (λ n. neighbour faces x n && neighbour faces y n) (below v)

-- a border edge: an unordered pair of points in exactly one face. Its ends are border points.
abbrev pub border_edge : List Face → ℕ → ℕ → Bool
border_edge faces x y = not (eqb x y) && eqb (shared faces x y) 1

unfoldable pub border_point : ℕ → List Face → ℕ → Bool
unfolding some
border_point v faces x = some (border_edge faces x) (below v)

-- a face edge runs from x to y
abbrev pub runs : ℕ → ℕ → Face → Bool
runs x y f = (eqb x f.a && eqb y f.b) || (eqb x f.b && eqb y f.c) || (eqb x f.c && eqb y f.a)

-- remove's number becomes keep's
abbrev pub renamed : ℕ → ℕ → ℕ → ℕ
renamed keep remove x = cond (eqb x remove) keep x

abbrev pub renamed_face : ℕ → ℕ → Face → Face
renamed_face keep remove f = record { a = renamed keep remove f.a; b = renamed keep remove f.b; c = renamed keep remove f.c }

-- a face with three distinct points below v
abbrev pub proper : ℕ → Face → Bool
proper v f =
    (ltb f.a v && ltb f.b v && ltb f.c v)
    && not (eqb f.a f.b) && not (eqb f.b f.c) && not (eqb f.c f.a)

-- face number k of a list of point numbers, three to a face, and the first f faces
abbrev pub face_at : List ℕ → ℕ → Face
face_at numbers k = record { a = get_or numbers (3 * k) 0; b = get_or numbers (3 * k + 1) 0; c = get_or numbers (3 * k + 2) 0 }

abbrev pub faces_of : ℕ → List ℕ → List Face
faces_of f numbers = map (face_at numbers) (below f)

-- ---- what the points carry, and what arithmetic has to say of it: each rule hangs on the data of the points that it is given, and on nothing else

-- D is all that one point carries: where it is, its quadric, and whether it is fixed.
pub record Rules (D : Type 0) : Type 0 where
  -- of keep's data and remove's: the place of the pair's cost in the order of costs, whether the pair is eligible, and what keep carries after the fold
  pub rank : D → D → ℕ
  pub eligible : D → D → Bool
  pub merged : D → D → D
  -- of a face's three points before a fold and after it: whether the fold squashes the face, and whether it turns it over
  pub squashed : D → D → D → D → D → D → Bool
  pub turned : D → D → D → D → D → D → Bool
  -- what a number that names no point stands for
  pub blank : D

-- The points by number, the live faces in face order, and beside them the number that each has in the input.
pub record Mesh (D : Type 0) : Type 0 where
  pub points : List D
  pub faces : List Face
  pub numbers : List ℕ

module _ {D : Type 0} (rules : Rules D) where
  -- what a point carries
  abbrev pub data_of : Mesh D → ℕ → D
  data_of m x = get_or m.points x rules.blank

  -- what keep carries after the fold of a pair
  abbrev pub merged_of : Mesh D → Pair → D
  merged_of m p = rules.merged (data_of m p.keep) (data_of m p.remove)
