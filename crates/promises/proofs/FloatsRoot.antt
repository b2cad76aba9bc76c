-- The f32 root of a bounded float that is not negative: it is finite, and it is at least what the root of a smaller pattern is. Assumes nothing.
use Prim.Native.Nat.{ℕ, ◌+◌, ◌-◌, ◌*◌, ◌/◌, ◌^◌, ◌≤◌, ◌<◌}
use native.Mathlib.Nat.{le_trans, le_of_eq, lt_of_lt_of_le, lt_of_le_of_lt, lt_irrefl, mul-one, mul_comm, mul_right_comm, mul-le-mul_right, le_of_mul-le-mul_right, mul-lt-mul_of_pos_right, div-lt_iff_lt-mul}
use native.Mathlib.Omega.{arith}
use mathlib.Core.Path.{◌≡◌, refl, sym, ap, subst, ◌∙◌}
use mathlib.Core.Logic.{⊎_elim}
use mathlib.Core.Bool.{true, false, true≢false}
use lib.Dec.{T, lit≤}
use lib.Pow.{pow-add, pow_pos}
use lib.Ieee.{Float, nan, inf, fin, binary32, up, down, size, fits, of_bits, to_bits}
use lib.Ieee.Digits.{size-le}
use lib.Ieee.Fits.{down_pos, kept-lt}
use lib.Ieee.Exact.{HasValue}
use lib.Ieee.Bits.{of_bits-to_bits}
use lib.Ieee.Scale.{finite}
use Rattle.bits.specs.Root.{steps, finite_root, root_bits, root}
use Rattle.bits.proofs.RootSteps.{lt-or-le, steps-rise}
use Rattle.bits.proofs.RootLaws.{root-of-zero, root_bits-finite}
use Rattle.bits.proofs.RootOrder.{steps-mono, root-mono, root_below}
use Rattle.bits.proofs.RootValues.{steps-value}
use Rattle.bits.proofs.NotBelowZero.{NotBelow, number}
use Rattle.promises.proofs.Floats.{AtMost, most, Has, AtLeast, least}

-- ---- the pattern of a bounded float that is not negative

-- how many digits it has in units of the smallest step
digits-few : (a n d l t : ℕ) → 0 < d → a ≤ n * d → n < 2 ^ t → size (a * 2 ^ l / d) ≤ t + l
digits-few a n d l t D h few =
    size-le (a * 2 ^ l / d) (t + l)
    ((div-lt_iff_lt-mul D).1
    (lt_of_le_of_lt (le_trans (mul-le-mul_right (2 ^ l) h) (le_of_eq (mul_right_comm n d (2 ^ l))))
    (lt_of_lt_of_le (mul-lt-mul_of_pos_right (mul-lt-mul_of_pos_right few (pow_pos l)) D) (le_of_eq (ap (λ (z : ℕ). z * d) (sym (pow-add 2 t l)))))))

-- and what pattern that makes
pattern-few : (z q : ℕ) → z ≤ 277 → q < 2 ^ 24 → 0 + (z - 24) * 8388608 + q < 0x7f80_0000
pattern-few z q h k = omega arith

-- it is below the infinities'
pub pattern-below : {k g : ℕ} {x : Float} → Has binary32 k g → AtMost k g x → NotBelow x → to_bits binary32 x < 0x7f80_0000
unfolding to_bits
pattern-below {k} {g} has (most h) (number {m} {e}) =
    let n = m * up e * 2 ^ 149 / down e in
    pattern-few (size n) (n / 2 ^ (size n - 24)) (digits-few (m * up e) (k * 2 ^ g) (down e) 149 128 (down_pos e) h has.fine) (kept-lt 24 n)

-- at least, by any fraction that the float is
value-least : (y : Float) (a c h : ℕ) → 0 < c → HasValue y false a c → c ≤ a * 2 ^ h → AtLeast h y
value-least nan a c h C v enough = absurd v
value-least (inf s) a c h C v enough = absurd v
value-least (fin true m e) a c h C v enough = absurd (true≢false v.0)
value-least (fin false m e) a c h C v enough =
    least {e = e}
    (le_of_mul-le-mul_right
    (le_trans (le_of_eq (mul_comm (down e) c)) (le_trans (mul-le-mul_right (down e) enough)
    (le_of_eq (mul_right_comm a (2 ^ h) (down e) ∙ ap (λ (z : ℕ). z * 2 ^ h) (sym v.1) ∙ mul_right_comm (m * up e) c (2 ^ h)))))
    C)

-- and back, of 1 or more
least-value : {y : Float} {a : ℕ} (c : ℕ) → AtLeast 0 y → HasValue y false a c → c ≤ a
least-value {a = a} c (least {m} {e} h) v =
    le_of_mul-le-mul_right
    (le_trans (le_of_eq (mul_comm c (down e))) (le_trans (mul-le-mul_right c (le_trans h (le_of_eq (mul-one (m * up e))))) (le_of_eq v.1)))
    (down_pos e)

-- the pattern of 1.0
one-steps : steps 0x3f80_0000 ≤ 2 ^ 149
unfolding steps
one-steps = lit≤ tt

-- and that of its root
root-of-one : 2 ^ 149 ≤ steps (finite_root 0x3f80_0000) * 2 ^ 0
unfolding finite_root steps
root-of-one = lit≤ tt

module _ {k g : ℕ} {x : Float} (has : Has binary32 k g) (bounded : AtMost k g x) (not-below : NotBelow x) (held : T (fits binary32 x)) where
  -- the float by its pattern
  pub by-pattern : HasValue x false (steps (to_bits binary32 x)) (2 ^ 149)
  by-pattern =
      subst (λ (y : Float). HasValue y false (steps (to_bits binary32 x)) (2 ^ 149)) (of_bits-to_bits binary32 x held)
      (steps-value (to_bits binary32 x) (pattern-below has bounded not-below))

  -- its root by the pattern's root
  pub root-by-pattern : HasValue (root x) false (steps (finite_root (to_bits binary32 x))) (2 ^ 149)
  unfolding root
  root-by-pattern =
      let below = pattern-below has bounded not-below in
      rw (root_bits-finite (to_bits binary32 x) below) (steps-value (finite_root (to_bits binary32 x)) (root_below (to_bits binary32 x) below))

  -- the root is finite
  pub root-finite : finite (root x) ≡ true
  root-finite = go (root x) root-by-pattern
    where
      go : (y : Float) → HasValue y false (steps (finite_root (to_bits binary32 x))) (2 ^ 149) → finite y ≡ true
      go nan v = absurd v
      go (inf s) v = absurd v
      go (fin s m e) v = refl

  -- the root is at least 2^-h, where the root of a pattern that is no larger is
  pub root-least : (b h : ℕ) → b ≤ to_bits binary32 x → 2 ^ 149 ≤ steps (finite_root b) * 2 ^ h → AtLeast h (root x)
  root-least b h low enough =
      value-least (root x) (steps (finite_root (to_bits binary32 x))) (2 ^ 149) h (pow_pos 149) root-by-pattern
      (le_trans enough (mul-le-mul_right (2 ^ h) (steps-mono _ _ (root-mono b (to_bits binary32 x) low (pattern-below has bounded not-below)))))

  -- where the float is 1 or more, so is its root
  pub root-one : AtLeast 0 x → AtLeast 0 (root x)
  root-one one = root-least 0x3f80_0000 0 (⊎_elim (λ l. absurd (wrong l)) (λ l. l) (lt-or-le (to_bits binary32 x) 0x3f80_0000)) root-of-one
    where
      wrong : to_bits binary32 x < 0x3f80_0000 → ⊥
      wrong l = lt_irrefl (2 ^ 149) (lt_of_le_of_lt (least-value (2 ^ 149) one by-pattern) (lt_of_lt_of_le (steps-rise (to_bits binary32 x) 0x3f80_0000 l) one-steps))

  -- where the float isn't zero, its root is at least 2^-75
  pub root-some : 0 < to_bits binary32 x → AtLeast 75 (root x)
  unfolding finite_root steps
  root-some some = root-least 1 75 some (lit≤ tt)

  -- where the float is zero, so is its root
  pub root_none : to_bits binary32 x ≡ 0 → root x ≡ of_bits binary32 0
  unfolding root
  root_none none = ap (of_bits binary32) (ap root_bits none ∙ root_bits-finite 0 (omega arith) ∙ root-of-zero)
