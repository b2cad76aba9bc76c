-- Quadrics of ten f64: the upper right half of a symmetric 4x4 matrix, by rows.
use Rattle.std.specs.Float.{binary64}
use Rattle.std.specs.Float.Ieee.{add, mul}
use Rattle.geometry.specs.declared.Plane.{Plane}
use Rattle.geometry.specs.declared.Quadric.{Quadric}
use Rattle.geometry.specs.Constants.{nought}

-- each starts at +0
abbrev pub zero_quadric : Quadric
zero_quadric =
    record {
      m11 = nought;
      m12 = nought;
      m13 = nought;
      m14 = nought;
      m22 = nought;
      m23 = nought;
      m24 = nought;
      m33 = nought;
      m34 = nought;
      m44 = nought;
    }

-- the product of the plane with itself
abbrev pub of_plane : Plane → Quadric
of_plane p =
    record {
      m11 = mul binary64 p.a p.a;
      m12 = mul binary64 p.a p.b;
      m13 = mul binary64 p.a p.c;
      m14 = mul binary64 p.a p.d;
      m22 = mul binary64 p.b p.b;
      m23 = mul binary64 p.b p.c;
      m24 = mul binary64 p.b p.d;
      m33 = mul binary64 p.c p.c;
      m34 = mul binary64 p.c p.d;
      m44 = mul binary64 p.d p.d;
    }

-- entry by entry
abbrev pub quadric_sum : Quadric → Quadric → Quadric
quadric_sum q r =
    record {
      m11 = add binary64 q.m11 r.m11;
      m12 = add binary64 q.m12 r.m12;
      m13 = add binary64 q.m13 r.m13;
      m14 = add binary64 q.m14 r.m14;
      m22 = add binary64 q.m22 r.m22;
      m23 = add binary64 q.m23 r.m23;
      m24 = add binary64 q.m24 r.m24;
      m33 = add binary64 q.m33 r.m33;
      m34 = add binary64 q.m34 r.m34;
      m44 = add binary64 q.m44 r.m44;
    }
