-- Quadrics by a bound on their parts: the quadric of a bounded plane is bounded, bounds add up in a sum, and the error of a bounded quadric at a bounded
-- point is finite. Assumes nothing.
use Prim.Native.Nat.{ℕ, ◌+◌, ◌*◌, ◌^◌, ◌≤◌}
use native.Mathlib.Omega.{arith}
use mathlib.Core.Path.{◌≡◌}
use mathlib.Core.Bool.{true}
use lib.Dec.{lit≤}
use lib.Ieee.{Float, binary64}
use lib.Ieee.Scale.{finite}
use Rattle.geometry.specs.declared.Point.{Point}
use Rattle.geometry.specs.declared.Plane.{Plane}
use Rattle.geometry.specs.declared.Quadric.{Quadric}
use Rattle.geometry.specs.Constants.{one}
use Rattle.geometry.specs.Quadrics.{zero_quadric, of_plane, quadric_sum}
use Rattle.placement.specs.Errors.{four_products, times_column, error_at}
use Rattle.promises.proofs.Floats.{AtMost, Has, has-power, most-finite, most-wider, add_most, mul_most}
use Rattle.promises.proofs.FloatsSquares.{has-less}
use Rattle.promises.proofs.Bounded.{Within, nought-most}
use Rattle.promises.proofs.ErrorsPlanes.{PlaneWithin, one-most}

-- ---- quadrics

-- every part of a quadric is at most k * 2^g in size
pub record QuadricWithin (k g : ℕ) (q : Quadric) : Type 0 where
  pub most11 : AtMost k g q.m11
  pub most12 : AtMost k g q.m12
  pub most13 : AtMost k g q.m13
  pub most14 : AtMost k g q.m14
  pub most22 : AtMost k g q.m22
  pub most23 : AtMost k g q.m23
  pub most24 : AtMost k g q.m24
  pub most33 : AtMost k g q.m33
  pub most34 : AtMost k g q.m34
  pub most44 : AtMost k g q.m44

-- each starts at +0
pub zero-within : {k g : ℕ} → QuadricWithin k g zero_quadric
zero-within = record {
  most11 = nought-most;
  most12 = nought-most;
  most13 = nought-most;
  most14 = nought-most;
  most22 = nought-most;
  most23 = nought-most;
  most24 = nought-most;
  most33 = nought-most;
  most34 = nought-most;
  most44 = nought-most;
}

-- a wider bound
pub quadric-wider : {k g : ℕ} (j i : ℕ) {q : Quadric} → k * 2 ^ g ≤ j * 2 ^ i → QuadricWithin k g q → QuadricWithin j i q
quadric-wider j i wide q = record {
  most11 = most-wider j i wide q.most11;
  most12 = most-wider j i wide q.most12;
  most13 = most-wider j i wide q.most13;
  most14 = most-wider j i wide q.most14;
  most22 = most-wider j i wide q.most22;
  most23 = most-wider j i wide q.most23;
  most24 = most-wider j i wide q.most24;
  most33 = most-wider j i wide q.most33;
  most34 = most-wider j i wide q.most34;
  most44 = most-wider j i wide q.most44;
}

-- the product of a plane with itself
pub plane-quadric : {k g : ℕ} {p : Plane} → Has binary64 (k * k) (g + g) → PlaneWithin k g p → QuadricWithin (k * k) (g + g) (of_plane p)
plane-quadric has p = record {
  most11 = mul_most binary64 has p.a_most p.a_most;
  most12 = mul_most binary64 has p.a_most p.b_most;
  most13 = mul_most binary64 has p.a_most p.c_most;
  most14 = mul_most binary64 has p.a_most p.d_most;
  most22 = mul_most binary64 has p.b_most p.b_most;
  most23 = mul_most binary64 has p.b_most p.c_most;
  most24 = mul_most binary64 has p.b_most p.d_most;
  most33 = mul_most binary64 has p.c_most p.c_most;
  most34 = mul_most binary64 has p.c_most p.d_most;
  most44 = mul_most binary64 has p.d_most p.d_most;
}

-- the bounds of a sum add up
pub sum-within : {j k g : ℕ} {q r : Quadric} → Has binary64 (j + k) g → QuadricWithin j g q → QuadricWithin k g r → QuadricWithin (j + k) g (quadric_sum q r)
sum-within has q r = record {
  most11 = add_most binary64 has q.most11 r.most11;
  most12 = add_most binary64 has q.most12 r.most12;
  most13 = add_most binary64 has q.most13 r.most13;
  most14 = add_most binary64 has q.most14 r.most14;
  most22 = add_most binary64 has q.most22 r.most22;
  most23 = add_most binary64 has q.most23 r.most23;
  most24 = add_most binary64 has q.most24 r.most24;
  most33 = add_most binary64 has q.most33 r.most33;
  most34 = add_most binary64 has q.most34 r.most34;
  most44 = add_most binary64 has q.most44 r.most44;
}

-- ---- the error at a point

-- four products, summed
four-most :
    {j k g h : ℕ} {a b c d x y z w : Float} → Has binary64 (j * k + j * k + j * k + j * k) (g + h)
    → AtMost j g a → AtMost j g b → AtMost j g c → AtMost j g d → AtMost k h x → AtMost k h y → AtMost k h z → AtMost k h w
    → AtMost (j * k + j * k + j * k + j * k) (g + h) (four_products a b c d x y z w)
four-most {j} {k} has a b c d x y z w =
    let one = has-less (j * k) (omega arith) has in
    let two = has-less (j * k + j * k) (omega arith) has in
    let three = has-less (j * k + j * k + j * k) (omega arith) has in
    add_most binary64 has
    (add_most binary64 three (add_most binary64 two (mul_most binary64 one a x) (mul_most binary64 one b y)) (mul_most binary64 one c z))
    (mul_most binary64 one d w)

-- 1.0 as the last part of a point
last-most : AtMost 1 20 one
last-most = most-wider 1 20 (lit≤ tt) one-most

-- a point times a column
column-most : {p : Point} {a b c d : Float} → Within 1 20 p → AtMost 1 214 a → AtMost 1 214 b → AtMost 1 214 c → AtMost 1 214 d → AtMost 4 234 (times_column p a b c d)
column-most p a b c d =
    four-most {j = 1} {k = 1} {g = 20} {h = 214} (has-power binary64 4 234 2 (omega arith) (omega arith) (omega arith)) p.x_most p.y_most p.z_most last-most a b c d

-- the error of a quadric whose parts are at most 2^214, at a point whose parts are at most 2^20
pub error-finite : {q : Quadric} {p : Point} → QuadricWithin 1 214 q → Within 1 20 p → finite (error_at q p) ≡ true
unfolding error_at
error-finite q p =
    most-finite
    (four-most {j = 4} {k = 1} {g = 234} {h = 20} (has-power binary64 16 254 4 (omega arith) (omega arith) (omega arith))
    (column-most p q.most11 q.most12 q.most13 q.most14)
    (column-most p q.most12 q.most22 q.most23 q.most24)
    (column-most p q.most13 q.most23 q.most33 q.most34)
    (column-most p q.most14 q.most24 q.most34 q.most44)
    p.x_most p.y_most p.z_most last-most)
