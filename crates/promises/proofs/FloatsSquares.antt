-- Sums of squares: they are not negative, they are bounded, and where a part is above 1 in size the sum is at least 1. Assumes nothing.
use Prim.Native.Nat.{ℕ, ◌+◌, ◌*◌, ◌^◌, ◌≤◌, ◌<◌}
use native.Mathlib.Nat.{le_trans, le_of_eq, le_of_lt, lt_of_le_of_lt, mul-one, one-mul, mul_comm, mul-le-mul, mul-le-mul_right, le_of_mul-le-mul_right, mul-pos, le-add_right, le-add_left}
use native.Mathlib.Omega.{arith}
use mathlib.Core.Path.{◌≡◌, sym, ap, ◌∙◌}
use mathlib.Core.Bool.{Bool, true, false, true≢false}
use mathlib.Core.Logic.{◌⊎◌, inl, inr, ⊎_elim}
use lib.IntN.{ℤ}
use lib.Dec.{T}
use lib.Pow.{pow_pos}
use lib.Ieee.{Float, nan, inf, fin, Format, binary32, prec, up, down, round, le, sum, add, mul}
use lib.Ieee.Fits.{down_pos}
use lib.Ieee.Exact.{HasValue}
use lib.Ieee.Order.{round_mono}
use lib.Ieee.Back.{round_whole}
use Rattle.bits.proofs.RootSteps.{lt-or-le}
use Rattle.bits.proofs.NotBelowZero.{NotBelow, number, infinite, add-not-below}
use Rattle.geometry.specs.declared.Point.{Point}
use Rattle.geometry.specs.Points.{dot}
use Rattle.promises.proofs.Floats.{AtMost, most, Has, AtLeast, least, le-tests, round-plus, add_most, mul_most}
use Rattle.promises.proofs.Bounded.{Within}

-- ---- at least 1

-- what is at least a float that is 1
above-one : {k g : ℕ} {x : Float} (y : Float) → NotBelow x → AtMost k g x → HasValue y false 1 1 → T (le y x) → AtLeast 0 x
unfolding le
above-one nan p b v h = absurd v
above-one (inf t) p b v h = absurd v
above-one (fin true n d) p b v h = absurd (true≢false v.0)
above-one (fin false n d) infinite b v h = elim b [ ]
above-one (fin false n d) (number {m} {e}) (most b) v h =
    let is : n * up d ≡ down d = sym (mul-one (n * up d)) ∙ v.1 ∙ one-mul (down d) in
    least {e = e}
    (le_trans
    (le_of_mul-le-mul_right
    (le_trans (le_of_eq (mul_comm (down e) (down d) ∙ ap (λ (z : ℕ). z * down e) (sym is))) (le-tests (n * up d * down e) (m * up e * down d) true h))
    (down_pos d))
    (le_of_eq (sym (mul-one (m * up e)))))

-- a fraction of 1 or more rounds to 1 or more
round-one : (f : Format) {k g : ℕ} (a c : ℕ) → 0 < c → c ≤ a → AtMost k g (round f false a c) → AtLeast 0 (round f false a c)
round-one f a c C h b =
    above-one (round f false 1 1) (round-plus f a c) b (round_whole f false 1 (pow_pos (prec f)))
    (round_mono f 1 1 a c (omega arith) C (le_trans (le_of_eq (one-mul c)) (le_trans h (le_of_eq (sym (mul-one a))))))

-- ---- the parts of a sum of squares

-- a square isn't negative
pub square-plus : (f : Format) {k g : ℕ} {x : Float} → AtMost k g x → NotBelow (mul f x x)
unfolding mul
square-plus f (most {s = true} {m} {e} h) = round-plus f _ _
square-plus f (most {s = false} {m} {e} h) = round-plus f _ _

-- above 1 in size
pub data Large : Float → Type 0 where
  large : {s : Bool} {m : ℕ} {e : ℤ} → down e < m * up e → Large (fin s m e)

-- or not
pub large-or : {k g : ℕ} {x : Float} → AtMost k g x → Large x ⊎ AtMost 1 0 x
large-or (most {s} {m} {e} h) = ⊎_elim (λ l. inl (large l)) (λ l. inr (most (le_trans l (le_of_eq (sym (one-mul (down e))))))) (lt-or-le (down e) (m * up e))

-- the square of what is above 1 is at least 1
square-one : (f : Format) {k g : ℕ} {x : Float} → Large x → AtMost k g (mul f x x) → AtLeast 0 (mul f x x)
unfolding mul
square-one f (large {s = true} {m} {e} h) b = round-one f (m * up e * (m * up e)) (down e * down e) (mul-pos (down_pos e) (down_pos e)) (mul-le-mul (le_of_lt h) (le_of_lt h)) b
square-one f (large {s = false} {m} {e} h) b = round-one f (m * up e * (m * up e)) (down e * down e) (mul-pos (down_pos e) (down_pos e)) (mul-le-mul (le_of_lt h) (le_of_lt h)) b

-- a sum with a part that is at least 1, and another that isn't negative
add-one-left : (f : Format) {k g : ℕ} {x y : Float} → AtLeast 0 x → NotBelow y → AtMost k g (add f x y) → AtLeast 0 (add f x y)
unfolding add sum
add-one-left f (least h) infinite b = elim b [ ]
add-one-left f (least {m} {e} h) (number {m = n} {e = d}) b =
    round-one f (m * up e * down d + n * up d * down e) (down e * down d) (mul-pos (down_pos e) (down_pos d))
    (le_trans (mul-le-mul_right (down d) (le_trans h (le_of_eq (mul-one (m * up e))))) (le-add_right _ _)) b

-- the same with the parts the other way round
add-one-right : (f : Format) {k g : ℕ} {x y : Float} → AtLeast 0 y → NotBelow x → AtMost k g (add f x y) → AtLeast 0 (add f x y)
unfolding add sum
add-one-right f (least h) infinite b = elim b [ ]
add-one-right f (least {m} {e} h) (number {m = n} {e = d}) b =
    round-one f (n * up d * down e + m * up e * down d) (down d * down e) (mul-pos (down_pos d) (down_pos e))
    (le_trans (le_of_eq (mul_comm (down d) (down e))) (le_trans (mul-le-mul_right (down d) (le_trans h (le_of_eq (mul-one (m * up e))))) (le-add_left _ _))) b

-- ---- the dot of points

-- a format that has a number has a smaller one times the same power
pub has-less : {f : Format} {k g : ℕ} (j : ℕ) → j ≤ k → Has f k g → Has f j g
has-less {g = g} j h has = record { few = lt_of_le_of_lt h has.few; fine = lt_of_le_of_lt (mul-le-mul_right (2 ^ g) h) has.fine }

-- three products, summed
pub dot_most : {j k g h : ℕ} {p r : Point} → Has binary32 (j * k + j * k + j * k) (g + h) → Within j g p → Within k h r → AtMost (j * k + j * k + j * k) (g + h) (dot p r)
dot_most {j} {k} has p r =
    let one = has-less (j * k) (omega arith) has in
    let two = has-less (j * k + j * k) (omega arith) has in
    add_most binary32 has
    (add_most binary32 two (mul_most binary32 one p.x_most r.x_most) (mul_most binary32 one p.y_most r.y_most))
    (mul_most binary32 one p.z_most r.z_most)

-- a point with itself
module _ {k g : ℕ} {p : Point} (has : Has binary32 (k * k + k * k + k * k) (g + g)) (p-most : Within k g p) where
  -- f32 has the bound of one square
  one : Has binary32 (k * k) (g + g)
  one = has-less (k * k) (omega arith) has

  -- of two
  two : Has binary32 (k * k + k * k) (g + g)
  two = has-less (k * k + k * k) (omega arith) has

  -- the square of x
  xx : AtMost (k * k) (g + g) (mul binary32 p.x p.x)
  xx = mul_most binary32 one p-most.x_most p-most.x_most

  -- of y
  yy : AtMost (k * k) (g + g) (mul binary32 p.y p.y)
  yy = mul_most binary32 one p-most.y_most p-most.y_most

  -- of z
  zz : AtMost (k * k) (g + g) (mul binary32 p.z p.z)
  zz = mul_most binary32 one p-most.z_most p-most.z_most

  -- the sum of the first two
  xy : AtMost (k * k + k * k) (g + g) (add binary32 (mul binary32 p.x p.x) (mul binary32 p.y p.y))
  xy = add_most binary32 two xx yy

  -- which isn't negative
  xy-plus : NotBelow (add binary32 (mul binary32 p.x p.x) (mul binary32 p.y p.y))
  xy-plus = add-not-below binary32 (square-plus binary32 p-most.x_most) (square-plus binary32 p-most.y_most)

  -- it isn't negative
  pub dot-plus : NotBelow (dot p p)
  dot-plus = add-not-below binary32 xy-plus (square-plus binary32 p-most.z_most)

  -- a part above 1 makes it at least 1: x
  pub dot-x : Large p.x → AtLeast 0 (dot p p)
  dot-x l =
      add-one-left binary32
      (add-one-left binary32 (square-one binary32 l xx) (square-plus binary32 p-most.y_most) xy)
      (square-plus binary32 p-most.z_most)
      (dot_most has p-most p-most)

  -- y
  pub dot-y : Large p.y → AtLeast 0 (dot p p)
  dot-y l =
      add-one-left binary32
      (add-one-right binary32 (square-one binary32 l yy) (square-plus binary32 p-most.x_most) xy)
      (square-plus binary32 p-most.z_most)
      (dot_most has p-most p-most)

  -- z
  pub dot-z : Large p.z → AtLeast 0 (dot p p)
  dot-z l = add-one-right binary32 (square-one binary32 l zz) xy-plus (dot_most has p-most p-most)
