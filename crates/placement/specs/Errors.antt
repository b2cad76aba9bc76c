-- The error at a point (document 01, "Error at p, with h=(x,y,z,1)").
use Rattle.std.specs.Prelude.{List, get_or, Float}
use Rattle.std.specs.Float.{nan, binary64}
use Rattle.std.specs.Float.Ieee.{add, mul}
use Rattle.geometry.specs.declared.Point.{Point}
use Rattle.geometry.specs.declared.Quadric.{Quadric}
use Rattle.geometry.specs.Constants.{one}

-- four products, summed in index order
abbrev pub four_products : Float → Float → Float → Float → Float → Float → Float → Float → Float
four_products a b c d x y z w =
    add binary64 (add binary64 (add binary64 (mul binary64 a x) (mul binary64 b y)) (mul binary64 c z)) (mul binary64 d w)

-- the same of two rows of four
abbrev pub row_product : List Float → List Float → Float
row_product a b =
    four_products (get_or a 0 nan) (get_or a 1 nan) (get_or a 2 nan) (get_or a 3 nan) (get_or b 0 nan) (get_or b 1 nan) (get_or b 2 nan) (get_or b 3 nan)

-- h=(x,y,z,1) times a column of q
abbrev pub times_column : Point → Float → Float → Float → Float → Float
times_column p q1 q2 q3 q4 = four_products p.x p.y p.z one q1 q2 q3 q4

-- column sums of h times q in index order, then times h in index order; not clamped
unfoldable pub error_at : Quadric → Point → Float
error_at q p =
    four_products
    (times_column p q.m11 q.m12 q.m13 q.m14)
    (times_column p q.m12 q.m22 q.m23 q.m24)
    (times_column p q.m13 q.m23 q.m33 q.m34)
    (times_column p q.m14 q.m24 q.m34 q.m44)
    p.x p.y p.z one
