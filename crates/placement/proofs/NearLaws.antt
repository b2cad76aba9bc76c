-- A distance decided by squares: of two floats D and L that are sums of squares, D at most four times L, the root of D is at most twice the root of L, and
-- so at most twice the longer of that and 2^-23. Four times a square is a number that f32 has, where it doesn't overflow, so no rounding counts, and the root of
-- four times a number is twice the number's. Assumes nothing.
use Prim.Native.Nat.{ℕ, ◌+◌, ◌*◌, ◌^◌, ◌≤◌, ◌<◌}
use native.Mathlib.Nat.{le_refl, le_trans, le_of_eq, mul_comm, mul_assoc, mul-le-mul_right}
use native.Mathlib.Omega.{arith}
use mathlib.Core.Path.{◌≡◌, refl}
use mathlib.Core.Bool.{Bool, true, false, ◌&&◌, cond}
use mathlib.Mathlib.Data.Bool.Basic.{and_elim_left, and_elim_right}
use lib.Dec.{T, lit≤}
use lib.Ieee.{Float, binary32, mul, lt, le, fits, of_bits, to_bits}
use Rattle.bits.specs.Root.{steps, finite_root, root}
use Rattle.bits.proofs.NotBelowZero.{NeverBelow}
use Rattle.bits.proofs.RootOrder.{steps-mono, root-times}
use Rattle.bits.proofs.FinitePatterns.{Pattern, literal, not-lt-most, pattern-under, product-under, product-least, root-pattern}
use Rattle.geometry.specs.declared.Point.{Point}
use Rattle.geometry.specs.Points.{dot, norm}
use Rattle.geometry.proofs.Squares.{dot-never-below, dot-fits}
use Rattle.placement.specs.Places.{shortest, two, longer_of}

two_steps : steps 0x4000_0000 ≡ 2 * 2 ^ 149
unfolding steps
two_steps = refl

-- the longer of a length and 2^-23 is no shorter than the length
longer-pattern : {x : Float} {b : ℕ} → Pattern x b → (c : ℕ) × Pattern (longer_of x) c × (b ≤ c)
longer-pattern {x} {b} p = go (lt shortest x) refl
  where
    least : Pattern shortest 0x3400_0000
    least = literal 0x3400_0000 (lit≤ tt)

    go : (t : Bool) → lt shortest x ≡ t → (c : ℕ) × Pattern (cond t x shortest) c × (b ≤ c)
    go true e = (b, p, le_refl b)
    go false e = (0x3400_0000, least, not-lt-most least p e)

-- The code names two numbers, a factor k and the largest square that decides, by their patterns here: k is at most 4, and four times that square is finite.
pub near-by-squares : (k largest : ℕ) (d l : Float) → T (fits binary32 d) → T (fits binary32 l) → NeverBelow d → NeverBelow l
    → le d (mul binary32 (of_bits binary32 k) l) ≡ true → le l (of_bits binary32 largest) ≡ true
    → k < 0x7f80_0000 → steps k ≤ 2 ^ 2 * 2 ^ 149 → largest + 2 * 0x80_0000 < 0x7f80_0000
    → le (root d) (mul binary32 two (longer_of (root l))) ≡ true
near-by-squares k largest d l d-held l-held d-plus l-plus near small k-finite k-most room =
    let L = pattern-under l-held l-plus (literal largest (omega arith)) small in
    let F = product-under 2 (literal k k-finite) L.0 k-most (omega (arith, L.1)) in
    let D = pattern-under d-held d-plus F.1 near in
    let R = longer-pattern (root-pattern L.0) in
    let roots = root-times 1 (to_bits binary32 d) (to_bits binary32 l) D.0.below L.0.below (le_trans (steps-mono _ _ D.1) F.2) in
    product-least (literal 0x4000_0000 (lit≤ tt)) R.1 (root-pattern D.0)
    (rw two_steps (doubled (2 ^ 149) (steps (finite_root (to_bits binary32 d))) (steps (finite_root (to_bits binary32 l))) (steps R.0) roots (steps-mono _ _ R.2)))
  where
    doubled : (w r s t : ℕ) → r ≤ s * 2 → s ≤ t → r * w ≤ 2 * w * t
    doubled w r s t h k = le_trans (mul-le-mul_right w (le_trans h (mul-le-mul_right 2 k))) (le_of_eq (simp (mul_assoc, mul_comm)))

-- the same of two ways, by the tests that the code makes
pub near-by-tests : (k largest : ℕ) (way other : Point) {d l : Float} → d ≡ dot way way → l ≡ dot other other
    → (le d (mul binary32 (of_bits binary32 k) l) && le l (of_bits binary32 largest)) ≡ true
    → k < 0x7f80_0000 → steps k ≤ 2 ^ 2 * 2 ^ 149 → largest + 2 * 0x80_0000 < 0x7f80_0000
    → le (norm way) (mul binary32 two (longer_of (norm other))) ≡ true
unfolding norm
near-by-tests k largest way other {d} {l} d-is l-is passed k-finite k-most room =
    let near = le d (mul binary32 (of_bits binary32 k) l) in
    let small = le l (of_bits binary32 largest) in
    rw (← d-is, ← l-is)
    (near-by-squares k largest d l (rw d-is (dot-fits way way)) (rw l-is (dot-fits other other)) (rw d-is (dot-never-below way)) (rw l-is (dot-never-below other))
    (and_elim_left near small passed)
    (and_elim_right near small passed)
    k-finite
    k-most
    room)
