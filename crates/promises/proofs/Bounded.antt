-- Where a pair's point goes, it stays within the bound: the place of two points whose coordinates are finite and at most the bound in size is such a
-- point too. The bound is a power of two, and f32 has its double. Assumes nothing.
use Prim.Native.Nat.{ℕ, ◌+◌, ◌*◌, ◌^◌, ◌≤◌, ◌<◌, zero-le}
use native.Mathlib.Nat.{mul-one, one-mul, mul_comm, mul_assoc, mul_left_comm, mul-le-mul_left, mul-pos, le_of_eq, le_of_lt, le_trans, eq-or-lt_of_le}
use native.Mathlib.Omega.{arith}
use mathlib.Core.Path.{◌≡◌, refl, sym, ◌∙◌}
use mathlib.Core.Logic.{◌⊎◌, inl, inr, ⊎_elim}
use mathlib.Core.Bool.{Bool, true, false, not, ◌&&◌, ◌||◌, false≢true}
use mathlib.Mathlib.Data.Bool.Basic.{and_elim_left, and_elim_right, or_inl, or_inr}
use lib.IntN.{negsuc}
use lib.Dec.{ltb, eqb}
use lib.Pow.{pow_pos, pow_mono}
use lib.Ieee.{Float, nan, inf, fin, binary32, up, down, unlike, neg, le, add, mul, of_bits}
use lib.Ieee.Fits.{down_pos}
use lib.Ieee.Scale.{finite}
use borrow.Author.Tests.{ltb-true, eqb-true, lt-ltb, eq-eqb}
use Rattle.lists.proofs.TestLaws.{by-test, either-of, all-of-six}
use Rattle.std.specs.Prelude.{Option, Some, None, unwrap_or}
use Rattle.geometry.specs.Constants.{half, nought}
use Rattle.geometry.specs.declared.Point.{Point}
use Rattle.geometry.specs.declared.Quadric.{Quadric}
use Rattle.geometry.specs.Points.{difference, norm, middle, all_finite}
use Rattle.placement.specs.Errors.{error_at}
use Rattle.placement.specs.Places.{is_in_size, solved, stands, tested, two, longer_of, cost_below, cheaper, fallback, place_of}
use Rattle.promises.specs.Finite.{small, small_point, power}
use Rattle.promises.proofs.Floats.{AtMost, most, Has, has-power, most-wider, round-most, add_most}

-- ---- the tests, and the bound on the size

-- twice not
kept : (b : Bool) → not (not b) ≡ true → b ≡ true
kept true h = refl
kept false h = h

-- at most, from the tests of less and of equal, which may stand either way round
at_most : (a c : ℕ) (p : Bool) → (eqb a c ≡ p) ⊎ (eqb c a ≡ p) → (ltb a c || (p && true)) ≡ true → a ≤ c
at_most a c p is h =
    either-of (ltb a c) (p && true) h (λ l. le_of_lt (ltb-true a c l))
    (λ q. let same : p ≡ true = and_elim_left p true q in ⊎_elim (λ e. le_of_eq (eqb-true a c (e ∙ same))) (λ e. le_of_eq (sym (eqb-true c a (e ∙ same)))) is)

-- and back
passes : (a c : ℕ) → a ≤ c → ((ltb a c || (eqb a c && true)) ≡ true) × ((ltb a c || (eqb c a && true)) ≡ true)
passes a c h =
    ⊎_elim (λ e. (or_inr (ltb a c) _ (rw (eq-eqb a c e)), or_inr (ltb a c) _ (rw (eq-eqb c a (sym e))))) (λ l. (or_inl (ltb a c) _ (lt-ltb a c l), or_inl (ltb a c) _ (lt-ltb a c l)))
    (eq-or-lt_of_le h)

-- two tests that pass
pass : (p q : Bool) → p ≡ true → q ≡ true → not (not (p && q)) ≡ true
pass p q h k = rw (h, k)

-- a bound is above zero
bound-above : (b : ℕ) {d : ℕ} → 0 < d → 0 < 1 * 2 ^ b * d
bound-above b h = mul-pos (mul-pos (omega arith) (pow_pos b)) h

-- what passes is bounded
pub small-most : (b : ℕ) (x : Float) → small (power b) x ≡ true → AtMost 1 b x
unfolding le neg
small-most b nan h = absurd (false≢true h)
small-most b (inf s) h = absurd (false≢true h)
small-most b (fin s m e) h = go s (kept (le (fin s m e) (power b) && le (neg (power b)) (fin s m e)) h)
  where
    go : (t : Bool) → (le (fin t m e) (power b) && le (neg (power b)) (fin t m e)) ≡ true → AtMost 1 b (fin t m e)
    go true p = most {e = e} (rw mul-one at (at_most (m * up e * 1) (1 * 2 ^ b * down e) _ (inr refl) (and_elim_right (le (fin true m e) (power b)) _ p)))
    go false p = most {e = e} (rw mul-one at (at_most (m * up e * 1) (1 * 2 ^ b * down e) _ (inl refl) (and_elim_left _ (le (neg (power b)) (fin false m e)) p)))

-- what passes, in words
pub small-says : (bound x : Float) → small bound x ≡ true → (finite x ≡ true) × (le x bound ≡ true) × (le (neg bound) x ≡ true)
small-says bound x h =
    let all = kept (finite x && le x bound && le (neg bound) x) h in
    let two = and_elim_left (finite x && le x bound) (le (neg bound) x) all in
    (and_elim_left (finite x) (le x bound) two, and_elim_right (finite x) (le x bound) two, and_elim_right (finite x && le x bound) (le (neg bound) x) all)

-- what is bounded passes
pub most-small : (b : ℕ) {x : Float} → AtMost 1 b x → small (power b) x ≡ true
unfolding le neg
most-small b (most {s = true} {m} {e} h) =
    let above : 0 < m * up e * 1 + 1 * 2 ^ b * down e = omega (arith, bound-above b (down_pos e)) in
    pass (le (fin true m e) (power b)) (le (neg (power b)) (fin true m e)) (or_inl (ltb 0 (m * up e * 1 + 1 * 2 ^ b * down e)) _ (lt-ltb 0 _ above))
    (passes (m * up e * 1) (1 * 2 ^ b * down e) (rw mul-one h)).1
most-small b (most {s = false} {m} {e} h) =
    let above : 0 < 1 * 2 ^ b * down e + m * up e * 1 = omega (arith, bound-above b (down_pos e)) in
    pass (le (fin false m e) (power b)) (le (neg (power b)) (fin false m e)) (passes (m * up e * 1) (1 * 2 ^ b * down e) (rw mul-one h)).0
    (or_inl (ltb 0 (1 * 2 ^ b * down e + m * up e * 1)) _ (lt-ltb 0 _ above))

-- ---- the middle

-- 0.5
half_is : half ≡ fin false 1 (negsuc 0)
unfolding of_bits
half_is = refl

-- half of what is at most twice the bound
halved : {b : ℕ} {x : Float} → Has binary32 1 b → AtMost 2 b x → AtMost 1 b (mul binary32 x (fin false 1 (negsuc 0)))
unfolding mul
halved {b} has (most {s} {m} {e} h) =
    let parts : 2 * 2 ^ b * down e ≡ 1 * 2 ^ b * (down e * 2) = simp (one-mul, mul_assoc, mul_comm, mul_left_comm) in
    round-most binary32 (unlike s false) (m * up e * (1 * 1)) (down e * 2) 1 b (mul-pos (down_pos e) (omega arith)) has
    (le_trans (le_of_eq (mul-one (m * up e))) (le_trans h (le_of_eq parts)))

-- `(x+y)*0.5`: the sum is at most twice the bound
middle-most : (b : ℕ) {x y : Float} → b ≤ 126 → AtMost 1 b x → AtMost 1 b y → AtMost 1 b (mul binary32 (add binary32 x y) half)
middle-most b fits p q =
    rw half_is
    (halved (has-power binary32 1 b 0 (omega arith) (omega arith) (omega arith))
    (add_most binary32 {g = b} (has-power binary32 2 b 1 (omega arith) (omega arith) (omega arith)) p q))

-- ---- points

-- every part of a point is at most k * 2^g in size
pub record Within (k g : ℕ) (p : Point) : Type 0 where
  pub x_most : AtMost k g p.x
  pub y_most : AtMost k g p.y
  pub z_most : AtMost k g p.z

-- a wider bound
pub within_wider : {i j : ℕ} {p : Point} → i ≤ j → Within 1 i p → Within 1 j p
within_wider {i} {j} h p =
    let wide : 1 * 2 ^ i ≤ 1 * 2 ^ j = mul-le-mul_left 1 (pow_mono h) in
    record { x_most = most-wider 1 j wide p.x_most; y_most = most-wider 1 j wide p.y_most; z_most = most-wider 1 j wide p.z_most }

-- +0 is within any bound
pub nought-most : {k g : ℕ} → AtMost k g nought
unfolding of_bits
nought-most = most zero-le

-- by the tests
pub small-within : (b : ℕ) (p : Point) → small_point (power b) p ≡ true → Within 1 b p
small-within b p h =
    let xy = and_elim_left (small (power b) p.x && small (power b) p.y) (small (power b) p.z) h in
    record {
      x_most = small-most b p.x (and_elim_left (small (power b) p.x) (small (power b) p.y) xy);
      y_most = small-most b p.y (and_elim_right (small (power b) p.x) (small (power b) p.y) xy);
      z_most = small-most b p.z (and_elim_right (small (power b) p.x && small (power b) p.y) (small (power b) p.z) h);
    }

-- and back
pub within-small : (b : ℕ) (p : Point) → Within 1 b p → small_point (power b) p ≡ true
within-small b p h = rw (most-small b h.x_most, most-small b h.y_most, most-small b h.z_most)

module _ (b : ℕ) (fits : b ≤ 126) where
  -- the size rule, of a part that is finite
  in_size : (x : Float) → finite x ≡ true → is_in_size (power b) x ≡ true → AtMost 1 b x
  in_size x known h =
      small-most b x
      (rw (known, and_elim_left (le (neg (power b)) x) (le x (power b)) h, and_elim_right (le (neg (power b)) x) (le x (power b)) h))

  -- a solved point that may stand
  stands-within : (length : Float) (keep p : Point) → stands (power b) length keep p ≡ true → Within 1 b p
  unfolding stands all_finite
  stands-within length keep p h =
      let all =
      all-of-six (finite p.x) (finite p.y) (finite p.z) (is_in_size (power b) p.x) (is_in_size (power b) p.y) (is_in_size (power b) p.z)
      (and_elim_left _ (le (norm (difference p keep)) (mul binary32 two (longer_of length))) h) in
      record { x_most = in_size p.x all.0 all.3; y_most = in_size p.y all.1 all.4; z_most = in_size p.z all.2 all.5 }

  -- a solved point that was tested, or another point where there is none
  tested-within : (length : Float) (keep other : Point) (found : Option Point) → Within 1 b other → Within 1 b (unwrap_or (tested (power b) length keep found) other)
  unfolding tested
  tested-within length keep other None h = h
  tested-within length keep other (Some p) h = by-test (stands (power b) length keep p) (λ t. rw t (stands-within length keep p t)) (λ t. rw t h)

  -- the cheaper of two points
  cheaper-within : (q : Quadric) (p r : Point) → Within 1 b p → Within 1 b r → Within 1 b (cheaper q p r)
  unfolding cheaper
  cheaper-within q p r h k = by-test (cost_below (error_at q r) (error_at q p)) (λ t. rw t k) (λ t. rw t h)

  -- the middle of two points
  pub middle-within : (p r : Point) → Within 1 b p → Within 1 b r → Within 1 b (middle p r)
  middle-within p r h k =
      record {
        x_most = middle-most b fits h.x_most k.x_most;
        y_most = middle-most b fits h.y_most k.y_most;
        z_most = middle-most b fits h.z_most k.z_most;
      }

  -- the place of a pair
  pub place-within : (length : Float) (q : Quadric) (keep remove : Point) → Within 1 b keep → Within 1 b remove → Within 1 b (place_of (power b) length q keep remove)
  unfolding place_of fallback
  place-within length q keep remove h k =
      tested-within length keep (fallback q keep remove) (solved q)
      (cheaper-within q (cheaper q keep remove) (middle keep remove) (cheaper-within q keep remove h k) (middle-within keep remove h k))
