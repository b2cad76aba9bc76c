-- The plane of a face.
use Rattle.std.specs.Prelude.{cond}
use Rattle.std.specs.Float.Ieee.{neg}
use Rattle.geometry.specs.declared.Point.{Point}
use Rattle.geometry.specs.declared.Plane.{Plane}
use Rattle.geometry.specs.Constants.{nought, one}
use Rattle.geometry.specs.Points.{dot, over, norm, normal, all_finite}

-- the normal over its norm
unfoldable pub unit_normal : Point → Point → Point → Point
unit_normal p0 p1 p2 = over (normal p0 p1 p2) (norm (normal p0 p1 p2))

-- the plane through v0 with the normal n: d = -(n·v0)
abbrev pub through : Point → Point → Plane
through v0 n = record { a = n.x; b = n.y; c = n.z; d = neg (dot n v0) }

-- (0,0,1,0)
abbrev pub level : Plane
level = record { a = nought; b = nought; c = one; d = nought }

-- if any part of the normal isn't finite, (0,0,1,0)
unfoldable pub plane_of : Point → Point → Point → Plane
plane_of p0 p1 p2 = cond (all_finite (unit_normal p0 p1 p2)) (through p0 (unit_normal p0 p1 p2)) level
