-- A face found fair by squares. With A and B the squares of the norms a after and b before, and the normals' dot T: where A and B are at most 16 * T, and B is
-- below 2^30 * A, the face is neither squashed nor turned over. For b is at most 2^15 * a, and 1e-6 is below 2^-16. And a * b is at most the larger of a * a and
-- b * b, each of which is at most twice its square, and so at most 32 * T, and 0.01 is below 2^-6. Every product on the way is by a power of two and exact, or
-- is rounded and doesn't pass a number that f32 has. Assumes nothing.
use Prim.Native.Nat.{ℕ, ◌+◌, ◌-◌, ◌*◌, ◌^◌, ◌≤◌, ◌<◌}
use native.Mathlib.Nat.{le_trans, le_of_eq, le_of_lt, lt_of_lt_of_le, lt_of_le_of_lt, mul_assoc, mul_left_comm, mul_right_comm, mul-le-mul_left, mul-le-mul_right, le_of_mul-le-mul_right}
use native.Mathlib.Omega.{arith}
use mathlib.Core.Path.{◌≡◌, sym, ap, ◌∙◌}
use mathlib.Core.Logic.{⊎_elim}
use mathlib.Core.Bool.{true, false, not, ◌&&◌}
use mathlib.Mathlib.Data.Bool.Basic.{and_elim_left, and_elim_right}
use lib.Dec.{T, lit≤}
use lib.Ieee.{Float, binary32, mul, lt, le, fits, of_bits, to_bits}
use Rattle.bits.specs.Root.{steps, finite_root, root}
use Rattle.bits.proofs.RootSteps.{lt-or-le, steps_low, steps-rise}
use Rattle.bits.proofs.RootOrder.{steps-mono, steps-higher, root-times, root-square, root-high}
use Rattle.bits.proofs.NotBelowZero.{NeverBelow}
use Rattle.bits.proofs.FinitePatterns.{Pattern, literal, below-lt, lt-below, pattern-under, pattern-between, product-under, product-most, root-pattern, root-part}
use Rattle.geometry.specs.declared.Point.{Point}
use Rattle.geometry.specs.Points.{dot, norm}
use Rattle.geometry.proofs.Squares.{dot-never-below, dot-fits}
use Rattle.meaning.specs.Arithmetic.{tiny, hundredth, squashed_normals, turned_normals}

-- The code names four numbers, by their patterns here: the least and the most that the dot may be, and how many times the dot, and the square after, a square may be.
-- Of them the laws ask this.
pub record Chosen (least most times_dot times_after : ℕ) : Type 0 where
  -- half of the least dot is still a normal number
  pub half : 0x100_0000 ≤ least
  pub least_finite : least < 0x7f80_0000
  -- 2^34 times the most is finite
  pub room : most + 34 * 0x80_0000 < 0x7f80_0000
  pub dot_finite : times_dot < 0x7f80_0000
  pub dot_most : steps times_dot ≤ 2 ^ 4 * 2 ^ 149
  pub after_finite : times_after < 0x7f80_0000
  pub after_most : steps times_after ≤ 2 ^ 30 * 2 ^ 149

-- 1e-6 is at most 2^-16, and 0.01 at most 2^-6
tiny-steps : steps 0x3586_37bd * 2 ^ 16 ≤ 2 ^ 149
unfolding steps
tiny-steps = lit≤ tt

hundredth-steps : steps 0x3c23_d70a * 2 ^ 6 ≤ 2 ^ 149
unfolding steps
hundredth-steps = lit≤ tt

-- ---- by whole numbers: w is 2^149

-- with c half of a
squash-steps : (w k a b c : ℕ) → k * 65536 ≤ w → b ≤ a * 32768 → a ≡ c * 2 → k * b ≤ c * w
squash-steps w k a b c K h half =
    le_trans (mul-le-mul_left k (le_trans h (le_of_eq (rw half (mul_assoc c 2 32768)))))
    (le_trans (le_of_eq (mul_left_comm k c 65536)) (mul-le-mul_left c K))

-- with c a 64th of b
part-steps : (w k b c : ℕ) → k * 64 ≤ w → b ≡ c * 64 → k * b ≤ c * w
part-steps w k b c K part = le_trans (le_of_eq (rw part (mul_left_comm k c 64))) (mul-le-mul_left c K)

-- a product is at most the larger square
product-square : (a b n : ℕ) → a * a ≤ n → b * b ≤ n → b * a ≤ n
product-square a b n p q =
    ⊎_elim (λ (l : a < b). le_trans (mul-le-mul_left b (le_of_lt l)) q) (λ (l : b ≤ a). le_trans (mul-le-mul_right a l) p) (lt-or-le a b)

-- with p at most a 64th of b, and h half of t
turn-steps : (w a b p t h : ℕ) → p * 64 ≤ b → b * a ≤ 2 * (t * 16 * w) → t ≡ h * 2 → p * a ≤ h * w
turn-steps w a b p t h part bound half =
    let left : p * a * 64 ≤ b * a = le_trans (le_of_eq (mul_right_comm p a 64)) (mul-le-mul_right a part) in
    let right : 2 * (t * 16 * w) ≡ h * w * 64 = rw half (regrouped h) in
    le_of_mul-le-mul_right (le_trans left (le_trans bound (le_of_eq right))) (omega arith)
  where
    regrouped : (x : ℕ) → 2 * (x * 2 * 16 * w) ≡ x * w * 64
    regrouped x = omega arith

-- half of a pattern's number is a lower pattern's
half-below : (r c : ℕ) → 0 < r → steps r ≡ steps c * 2 → c < r
half-below r c some half = ⊎_elim (λ l. l) (λ l. absurd (omega (arith, steps-rise 0 r some, steps-mono r c l))) (lt-or-le c r)

-- ---- the law

module _ (least most times_dot times_after : ℕ) (chosen : Chosen least most times_dot times_after) (a b t : Float) (a-held : T (fits binary32 a)) (b-held : T (fits binary32 b)) (t-held : T (fits binary32 t)) (a-plus : NeverBelow a) (b-plus : NeverBelow b)
    (low : le (of_bits binary32 least) t ≡ true) (high : le t (of_bits binary32 most) ≡ true) (a_most : le a (mul binary32 (of_bits binary32 times_dot) t) ≡ true) (b_most : le b (mul binary32 (of_bits binary32 times_dot) t) ≡ true)
    (less : lt b (mul binary32 (of_bits binary32 times_after) a) ≡ true) where
  -- the patterns: of the dot, of 16 times it, of the squares and of 2^30 times the one after
  dot-pattern : Pattern t (to_bits binary32 t) × (least ≤ to_bits binary32 t) × (to_bits binary32 t ≤ most)
  dot-pattern =
      let more : 0 < least = omega (arith, chosen.half) in
      let top : most < 0x7f80_0000 = omega (arith, chosen.room) in
      pattern-between t-held more (literal least chosen.least_finite) (literal most top) low high

  most-pattern : (c : ℕ) × Pattern (mul binary32 (of_bits binary32 times_dot) t) c × (steps c ≤ steps (to_bits binary32 t) * 2 ^ 4) × (c ≤ to_bits binary32 t + 4 * 0x80_0000)
  most-pattern = product-under 4 (literal times_dot chosen.dot_finite) dot-pattern.0 chosen.dot_most (omega (arith, dot-pattern.2, chosen.room))

  a-pattern : Pattern a (to_bits binary32 a) × (to_bits binary32 a ≤ most-pattern.0)
  a-pattern = pattern-under a-held a-plus most-pattern.1 a_most

  b-pattern : Pattern b (to_bits binary32 b) × (to_bits binary32 b ≤ most-pattern.0)
  b-pattern = pattern-under b-held b-plus most-pattern.1 b_most

  more-pattern : (c : ℕ) × Pattern (mul binary32 (of_bits binary32 times_after) a) c × (steps c ≤ steps (to_bits binary32 a) * 2 ^ 30) × (c ≤ to_bits binary32 a + 30 * 0x80_0000)
  more-pattern =
      product-under 30 (literal times_after chosen.after_finite) a-pattern.0 chosen.after_most
      (omega (arith, dot-pattern.2, most-pattern.3, a-pattern.1, chosen.room))

  -- the square before is below 2^30 times the one after, which is so above zero
  times : steps (to_bits binary32 b) < steps (to_bits binary32 a) * 2 ^ 30
  times = lt_of_lt_of_le (steps-rise _ _ (lt-below b-pattern.0 more-pattern.1 less)) more-pattern.2

  some : 0 < to_bits binary32 a
  some = ⊎_elim (λ l. l) (λ l. absurd (none l)) (lt-or-le 0 (to_bits binary32 a))
    where
      none : to_bits binary32 a ≤ 0 → ⊥
      none l =
          let zero_a : to_bits binary32 a ≡ 0 = omega arith in
          let nothing : steps (to_bits binary32 a) ≡ 0 = ap steps zero_a ∙ steps_low 0 (omega arith) in
          omega (arith, rw nothing at times)

  -- ---- neither squashed

  pub not_squashed : lt (mul binary32 tiny (root b)) (root a) ≡ true
  not_squashed =
      let after = finite_root (to_bits binary32 a) in
      let before = finite_root (to_bits binary32 b) in
      let half = root-part 1 (to_bits binary32 a) (lit≤ tt) a-pattern.0.below in
      let roots : steps before ≤ steps after * 2 ^ 15 = root-times 15 (to_bits binary32 b) (to_bits binary32 a) b-pattern.0.below a-pattern.0.below (le_of_lt times) in
      let product = product-most (literal 0x3586_37bd (lit≤ tt)) (root-pattern b-pattern.0) (literal half.0 (lt_of_le_of_lt half.2 (root-pattern a-pattern.0).below))
      (squash-steps (2 ^ 149) (steps 0x3586_37bd) (steps after) (steps before) (steps half.0) tiny-steps roots half.1) in
      below-lt product.0 (root-pattern a-pattern.0)
      (lt_of_le_of_lt product.1 (half-below after half.0 (lt_of_lt_of_le (lit≤ tt) (root-high (to_bits binary32 a) some a-pattern.0.below)) half.1))

  -- ---- nor turned over

  -- the square of a root is at most 32 times the dot
  under : {x : ℕ} → x < 0x7f80_0000 → x ≤ most-pattern.0 → steps (finite_root x) * steps (finite_root x) ≤ 2 * (steps (to_bits binary32 t) * 16 * 2 ^ 149)
  under {x} X h =
      le_trans (root-square x X) (mul-le-mul_left 2 (mul-le-mul_right (2 ^ 149) (le_trans (steps-mono x most-pattern.0 h) most-pattern.2)))

  pub not-turned : lt (mul binary32 (mul binary32 hundredth (root b)) (root a)) t ≡ true
  not-turned =
      let after = finite_root (to_bits binary32 a) in
      let before = finite_root (to_bits binary32 b) in
      let dotted = to_bits binary32 t in
      let part = root-part 6 (to_bits binary32 b) (lit≤ tt) b-pattern.0.below in
      let first = product-most (literal 0x3c23_d70a (lit≤ tt)) (root-pattern b-pattern.0) (literal part.0 (lt_of_le_of_lt part.2 (root-pattern b-pattern.0).below))
      (part-steps (2 ^ 149) (steps 0x3c23_d70a) (steps before) (steps part.0) hundredth-steps part.1) in
      let small = le_trans (mul-le-mul_right 64 (steps-mono _ _ first.1)) (le_of_eq (sym part.1)) in
      let down : dotted - 0x80_0000 + 1 * 0x80_0000 ≡ dotted = omega (arith, dot-pattern.1, chosen.half) in
      let half : steps dotted ≡ steps (dotted - 0x80_0000) * 2 = ap steps (sym down) ∙ steps-higher 1 (dotted - 0x80_0000) (omega (arith, dot-pattern.1, chosen.half)) in
      let second = product-most first.0 (root-pattern a-pattern.0) (literal (dotted - 0x80_0000) (omega (arith, dot-pattern.2)))
      (turn-steps (2 ^ 149) (steps after) (steps before) (steps (to_bits binary32 (mul binary32 hundredth (root b)))) (steps dotted) (steps (dotted - 0x80_0000)) small
      (product-square (steps after) (steps before) _ (under a-pattern.0.below a-pattern.1) (under b-pattern.0.below b-pattern.1)) half) in
      below-lt second.0 dot-pattern.0 (omega (arith, second.1, dot-pattern.1, chosen.half))

-- the same of two normals, by the tests that the code makes
pub fair-by-tests : (least most times_dot times_after : ℕ) (before after : Point) {t b a : Float} → t ≡ dot before after → b ≡ dot before before → a ≡ dot after after
    → ((((le (of_bits binary32 least) t && le t (of_bits binary32 most)) && le a (mul binary32 (of_bits binary32 times_dot) t)) && le b (mul binary32 (of_bits binary32 times_dot) t)) && lt b (mul binary32 (of_bits binary32 times_after) a)) ≡ true
    → Chosen least most times_dot times_after
    → (squashed_normals before after ≡ false) × (turned_normals before after ≡ false)
unfolding norm
fair-by-tests least most times_dot times_after before after {t} {b} {a} t-is b-is a-is passed chosen =
    let over = le (of_bits binary32 least) t in
    let under = le t (of_bits binary32 most) in
    let third = le a (mul binary32 (of_bits binary32 times_dot) t) in
    let fourth = le b (mul binary32 (of_bits binary32 times_dot) t) in
    let fifth = lt b (mul binary32 (of_bits binary32 times_after) a) in
    let first-four = and_elim_left (((over && under) && third) && fourth) fifth passed in
    let first_three = and_elim_left ((over && under) && third) fourth first-four in
    let first_two = and_elim_left (over && under) third first_three in
    let a-held : T (fits binary32 a) = rw a-is (dot-fits after after) in
    let b-held : T (fits binary32 b) = rw b-is (dot-fits before before) in
    let t-held : T (fits binary32 t) = rw t-is (dot-fits before after) in
    let a-plus : NeverBelow a = rw a-is (dot-never-below after) in
    let b-plus : NeverBelow b = rw b-is (dot-never-below before) in
    let low = and_elim_left over under first_two in
    let high = and_elim_right over under first_two in
    let a_most = and_elim_right (over && under) third first_three in
    let b_most = and_elim_right ((over && under) && third) fourth first-four in
    let less = and_elim_right (((over && under) && third) && fourth) fifth passed in
    rw (← t-is, ← b-is, ← a-is) (
      ap not (not_squashed least most times_dot times_after chosen a b t a-held b-held t-held a-plus b-plus low high a_most b_most less),
      ap not (not-turned least most times_dot times_after chosen a b t a-held b-held t-held a-plus b-plus low high a_most b_most less),
    )
