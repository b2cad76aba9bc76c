-- Points of three f32. Each operation rounds once, in the order written.
use Rattle.std.specs.Prelude.{Bool, ◌&&◌, Float}
use Rattle.std.specs.Float.{binary32}
use Rattle.std.specs.Float.Ieee.{add, sub, mul, div}
use Rattle.std.specs.Float.Ieee.Scale.{finite}
use Rattle.bits.specs.Root.{root}
use Rattle.geometry.specs.Constants.{half}
use Rattle.geometry.specs.declared.Point.{Point}

-- a less b
abbrev pub difference : Point → Point → Point
difference a b =
    record {
      x = sub binary32 a.x b.x;
      y = sub binary32 a.y b.y;
      z = sub binary32 a.z b.z;
    }

-- x is `y*z' - z*y'`, others likewise
abbrev pub cross : Point → Point → Point
cross a b =
    record {
      x = sub binary32 (mul binary32 a.y b.z) (mul binary32 a.z b.y);
      y = sub binary32 (mul binary32 a.z b.x) (mul binary32 a.x b.z);
      z = sub binary32 (mul binary32 a.x b.y) (mul binary32 a.y b.x);
    }

-- `(x*x' + y*y') + z*z'`
abbrev pub dot : Point → Point → Float
dot a b = add binary32 (add binary32 (mul binary32 a.x b.x) (mul binary32 a.y b.y)) (mul binary32 a.z b.z)

-- each part over d
abbrev pub over : Point → Float → Point
over p d = record { x = div binary32 p.x d; y = div binary32 p.y d; z = div binary32 p.z d }

-- `(pa+pb)*0.5`
abbrev pub middle : Point → Point → Point
middle a b =
    record {
      x = mul binary32 (add binary32 a.x b.x) half;
      y = mul binary32 (add binary32 a.y b.y) half;
      z = mul binary32 (add binary32 a.z b.z) half;
    }

-- the f32 square root of the dot with itself
unfoldable pub norm : Point → Float
norm p = root (dot p p)

-- `(p1-p0) x (p2-p0)`
unfoldable pub normal : Point → Point → Point → Point
normal p0 p1 p2 = cross (difference p1 p0) (difference p2 p0)

-- every part is finite
unfoldable pub all_finite : Point → Bool
all_finite p = (finite p.x && finite p.y) && finite p.z
