-- The plane of a face whose points are at most 2^20 in size has bounded parts, and so has a pair's length. A part of the normal over the norm is at most
-- 2^75 in size wherever it is finite: where the part is above 1, the norm is at least 1, and else the norm is at least 2^-75, or zero. Assumes nothing.
use Prim.Native.Nat.{ℕ}
use native.Mathlib.Nat.{eq-zero-or-pos}
use native.Mathlib.Omega.{arith}
use mathlib.Core.Path.{◌≡◌}
use mathlib.Core.Logic.{⊎_elim}
use mathlib.Core.Bool.{Bool, true, false, ◌&&◌, cond, false≢true}
use mathlib.Mathlib.Data.Bool.Basic.{and_elim_left, and_elim_right}
use lib.Dec.{T, eqb, lit≤}
use lib.Ieee.{Float, nan, inf, binary32, unlike, sub, mul, div, fits, of_bits, to_bits}
use lib.Ieee.Fits.{add-fits}
use lib.Ieee.Scale.{finite}
use Rattle.lists.proofs.TestLaws.{by-test}
use Rattle.bits.specs.Root.{root}
use Rattle.bits.proofs.NotBelowZero.{NotBelow}
use Rattle.geometry.specs.declared.Point.{Point}
use Rattle.geometry.specs.declared.Plane.{Plane}
use Rattle.geometry.specs.Constants.{one}
use Rattle.geometry.specs.Points.{difference, over, norm, normal, all_finite}
use Rattle.geometry.specs.Planes.{unit_normal, through, level, plane_of}
use Rattle.promises.proofs.Floats.{AtMost, most, Has, has-power, AtLeast, most-wider, neg-most, sub-most, mul_most, div_most}
use Rattle.promises.proofs.FloatsRoot.{root-finite, root-one, root-some, root_none}
use Rattle.promises.proofs.Bounded.{Within, nought-most}
use Rattle.promises.proofs.FloatsSquares.{Large, large-or, dot_most, dot-plus, dot-x, dot-y, dot-z}

-- ---- normals and lengths

-- a difference of two points
difference-within : {p r : Point} → Within 1 20 p → Within 1 20 r → Within 2 20 (difference p r)
difference-within p r =
    let has = has-power binary32 2 20 1 (omega arith) (omega arith) (omega arith) in
    record { x_most = sub-most binary32 has p.x_most r.x_most; y_most = sub-most binary32 has p.y_most r.y_most; z_most = sub-most binary32 has p.z_most r.z_most }

-- the difference of two products
minor-most : {u v x y : Float} → AtMost 2 20 u → AtMost 2 20 v → AtMost 2 20 x → AtMost 2 20 y → AtMost 8 40 (sub binary32 (mul binary32 u v) (mul binary32 x y))
minor-most u v x y =
    let has = has-power binary32 4 40 2 (omega arith) (omega arith) (omega arith) in
    sub-most binary32 {j = 4} {k = 4} (has-power binary32 8 40 3 (omega arith) (omega arith) (omega arith))
    (mul_most binary32 {i = 2} {j = 2} {g = 20} {h = 20} has u v)
    (mul_most binary32 {i = 2} {j = 2} {g = 20} {h = 20} has x y)

-- the normal of a face
normal-within : {p0 p1 p2 : Point} → Within 1 20 p0 → Within 1 20 p1 → Within 1 20 p2 → Within 8 40 (normal p0 p1 p2)
unfolding normal
normal-within p0 p1 p2 =
    let u = difference-within p1 p0 in
    let v = difference-within p2 p0 in
    record {
      x_most = minor-most u.y_most v.z_most u.z_most v.y_most;
      y_most = minor-most u.z_most v.x_most u.x_most v.z_most;
      z_most = minor-most u.x_most v.y_most u.y_most v.x_most;
    }

-- f32 has the bound of a length's sum of squares
has-length : Has binary32 12 40
has-length = has-power binary32 12 40 4 (omega arith) (omega arith) (omega arith)

-- and of a normal's
has-norm : Has binary32 192 80
has-norm = has-power binary32 192 80 8 (omega arith) (omega arith) (omega arith)

-- the length of a pair is finite
pub length-finite : {p r : Point} → Within 1 20 p → Within 1 20 r → finite (norm (difference p r)) ≡ true
unfolding norm
length-finite p r =
    let d = difference-within p r in
    root-finite has-length (dot_most {j = 2} {k = 2} {g = 20} {h = 20} has-length d d) (dot-plus {k = 2} {g = 20} has-length d) (add-fits binary32 _ _)

-- ---- a part over the norm

-- over zero nothing is finite
over_zero : {k g : ℕ} {x : Float} → AtMost k g x → finite (div binary32 x (of_bits binary32 0)) ≡ true → ⊥
unfolding div of_bits
over_zero (most {s} {m} {e} h) known = go (eqb m 0) known
  where
    go : (b : Bool) → finite (cond b nan (inf (unlike s false))) ≡ true → ⊥
    go true k = false≢true k
    go false k = false≢true k

-- a part x over the root of s, which is at least 1 where x is above 1 in size
over_root :
    {x s : Float} → AtMost 8 40 x → (Large x → AtLeast 0 s) → AtMost 192 80 s → NotBelow s → T (fits binary32 s)
    → finite (div binary32 x (root s)) ≡ true → AtMost 1 75 (div binary32 x (root s))
over_root {x} {s} x_most one s-most s-plus s-fits known =
    ⊎_elim
    (λ l.
    most-wider 1 75 (lit≤ tt)
    (div_most binary32 {k = 8} {g = 40} {h = 0} (has-power binary32 8 40 3 (omega arith) (omega arith) (omega arith)) x_most (root-one has-norm s-most s-plus s-fits (one l))))
    (λ l. ⊎_elim
    (λ z. absurd (over_zero x_most (rw (root_none has-norm s-most s-plus s-fits z) at known)))
    (λ z. div_most binary32 {k = 1} {g = 0} {h = 75} (has-power binary32 1 75 0 (omega arith) (omega arith) (omega arith)) l (root-some has-norm s-most s-plus s-fits z))
    (eq-zero-or-pos (to_bits binary32 s)))
    (large-or x_most)

-- the normal over its norm, where every part is finite
unit-within : {p : Point} → Within 8 40 p → all_finite (over p (norm p)) ≡ true → Within 1 75 (over p (norm p))
unfolding norm all_finite
unit-within {p} p-most known =
    let s-most = dot_most {j = 8} {k = 8} {g = 40} {h = 40} has-norm p-most p-most in
    let s-plus = dot-plus {k = 8} {g = 40} has-norm p-most in
    let s-fits = add-fits binary32 _ _ in
    let xy = and_elim_left (finite (div binary32 p.x (norm p)) && finite (div binary32 p.y (norm p))) (finite (div binary32 p.z (norm p))) known in
    record {
      x_most = over_root p-most.x_most (dot-x {k = 8} {g = 40} has-norm p-most) s-most s-plus s-fits (and_elim_left (finite (div binary32 p.x (norm p))) _ xy);
      y_most = over_root p-most.y_most (dot-y {k = 8} {g = 40} has-norm p-most) s-most s-plus s-fits (and_elim_right (finite (div binary32 p.x (norm p))) _ xy);
      z_most = over_root p-most.z_most (dot-z {k = 8} {g = 40} has-norm p-most) s-most s-plus s-fits
          (and_elim_right (finite (div binary32 p.x (norm p)) && finite (div binary32 p.y (norm p))) _ known);
    }

-- ---- planes

-- every part of a plane is at most k * 2^g in size
pub record PlaneWithin (k g : ℕ) (p : Plane) : Type 0 where
  pub a_most : AtMost k g p.a
  pub b_most : AtMost k g p.b
  pub c_most : AtMost k g p.c
  pub d_most : AtMost k g p.d

-- through a point, with a normal
through-within : {v n : Point} → Within 1 20 v → Within 1 75 n → PlaneWithin 1 97 (through v n)
through-within v n = record {
  a_most = most-wider 1 97 (lit≤ tt) n.x_most;
  b_most = most-wider 1 97 (lit≤ tt) n.y_most;
  c_most = most-wider 1 97 (lit≤ tt) n.z_most;
  d_most =
      most-wider 1 97 (lit≤ tt)
      (neg-most (dot_most {j = 1} {k = 1} {g = 75} {h = 20} (has-power binary32 3 95 2 (omega arith) (omega arith) (omega arith)) n v));
}

-- 1.0
pub one-most : AtMost 1 0 one
unfolding of_bits
one-most = most (lit≤ tt)

-- (0,0,1,0)
level-within : PlaneWithin 1 97 level
level-within = record { a_most = nought-most; b_most = nought-most; c_most = most-wider 1 97 (lit≤ tt) one-most; d_most = nought-most }

-- the plane of a face
pub plane-within : {p0 p1 p2 : Point} → Within 1 20 p0 → Within 1 20 p1 → Within 1 20 p2 → PlaneWithin 1 97 (plane_of p0 p1 p2)
unfolding plane_of unit_normal
plane-within {p0} {p1} {p2} h0 h1 h2 =
    by-test (all_finite (unit_normal p0 p1 p2))
    (λ t. rw t (through-within h0 (unit-within (normal-within h0 h1 h2) t)))
    (λ t. rw t level-within)
