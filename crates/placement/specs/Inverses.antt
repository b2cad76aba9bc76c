-- The inverse of the 3x3 block m (document 01, "The 3x3 block m (f64) is inverted as an array of rows").
use Rattle.std.specs.Prelude.{cond, List, [], ◌∷◌, get_or, Float, Option, Some, None}
use Rattle.std.specs.Float.{nan, binary64}
use Rattle.std.specs.Float.Ieee.{add, sub, mul, div, neg, eq}
use Rattle.geometry.specs.Constants.{nought}
use Rattle.placement.specs.declared.inverse.Block.{Block}
use Rattle.placement.specs.declared.inverse.Rows.{Rows}

-- the block of three rows of three
abbrev pub block_of : List Float → List Float → List Float → Block
block_of r1 r2 r3 =
    record {
      m11 = get_or r1 0 nan;
      m12 = get_or r1 1 nan;
      m13 = get_or r1 2 nan;
      m21 = get_or r2 0 nan;
      m22 = get_or r2 1 nan;
      m23 = get_or r2 2 nan;
      m31 = get_or r3 0 nan;
      m32 = get_or r3 1 nan;
      m33 = get_or r3 2 nan;
    }

-- `a*b - c*d`
abbrev pub minor : Float → Float → Float → Float → Float
minor a b c d = sub binary64 (mul binary64 a b) (mul binary64 c d)

-- A = m22*m33-m32*m23
abbrev pub minor_a : Block → Float
minor_a m = minor m.m22 m.m33 m.m32 m.m23

-- B = m21*m33-m31*m23
abbrev pub minor_b : Block → Float
minor_b m = minor m.m21 m.m33 m.m31 m.m23

-- C = m21*m32-m31*m22
abbrev pub minor_c : Block → Float
minor_c m = minor m.m21 m.m32 m.m31 m.m22

-- det = (m11*A - m12*B) + m13*C
abbrev pub determinant : Block → Float
determinant m =
    add binary64 (sub binary64 (mul binary64 m.m11 (minor_a m)) (mul binary64 m.m12 (minor_b m)))
    (mul binary64 m.m13 (minor_c m))

-- three entries, each over d
abbrev pub row_over : Float → Float → Float → Float → List Float
row_over d a b c = div binary64 a d ∷ div binary64 b d ∷ div binary64 c d ∷ []

-- (A, m13*m32-m33*m12, m12*m23-m22*m13)
abbrev pub first_row : Block → Float → List Float
first_row m d = row_over d (minor_a m) (minor m.m13 m.m32 m.m33 m.m12) (minor m.m12 m.m23 m.m22 m.m13)

-- (-B, m11*m33-m31*m13, m13*m21-m23*m11)
abbrev pub second_row : Block → Float → List Float
second_row m d = row_over d (neg (minor_b m)) (minor m.m11 m.m33 m.m31 m.m13) (minor m.m13 m.m21 m.m23 m.m11)

-- (C, m12*m31-m32*m11, m11*m22-m21*m12)
abbrev pub third_row : Block → Float → List Float
third_row m d = row_over d (minor_c m) (minor m.m12 m.m31 m.m32 m.m11) (minor m.m11 m.m22 m.m21 m.m12)

-- the rows, each entry over det; det equal to zero: no inverse
abbrev pub inverse_over : Block → Float → Option Rows
inverse_over m det = cond (eq det nought) None (Some (record { first = first_row m det; second = second_row m det; third = third_row m det }))

-- the inverse of m, where it has one
unfoldable pub inverse : Block → Option Rows
inverse m = inverse_over m (determinant m)
