-- The order of floats, read off their bit patterns, in either format. A pattern that is no NaN's stands for a whole number of the
-- format's smallest steps, which rises with the pattern. So `<` on floats is `<` on patterns, the sign apart (`lt-bits`).
use Rattle.std.proofs.Common.{◌≡◌, ℕ, zero, suc, ◌+◌, ◌-◌, ◌*◌, ◌/◌, ◌%◌, ◌^◌, ◌<◌, ◌≤◌, Bool, true, false, not, ◌&&◌, ltb, leb, sym, refl, ap, ◌∙◌, inl, inr, suc-le-suc, zero-le, le_of_eq, lt_of_lt_of_le, le_of_suc-le-suc, le-add_right, lt_of_le_of_lt, le_of_lt, mod-lt, mul_assoc, mul_comm, div-lt_iff_lt-mul, add-mul, mul-le-mul, eq-or-lt_of_le, mul-lt-mul_of_pos_right, mul-pos, div-add-mod', zero-mul, mul-one, mul-add, mul_right_comm, mul-div_cancel, arith, pow_pos, pow_mono, ltb-false, le-ltb, lt-ltb, eq-eqb, ne_eqb, le-leb, leb-false, leb-true}
use native.Mathlib.Nat.{mod-mod_of_dvd, dvd-mul_right, mul-mod_left, zero-div, zero-mod, two-pow-succ}
use lib.Pow.{shr_mono}
use lib.Ieee.{Float, nan, inf, fin, Format, prec, low, up, down, below, lt, hid, ones, top, of_fields, of_bits, nan_bits}
use lib.Ieee.Fits.{down_pos}
use lib.Ieee.Exact.{HasValue, odd_sign}
use lib.Ieee.Bits.{nan_bits_above}
use borrow.Author.Tests.{lt-leb}

-- ---- the number of steps

-- the steps of an exponent's field and the digits: a field of 0 has no leading digit, and counts as a field of 1
abbrev field_steps : Format → ℕ → ℕ → ℕ
field_steps f zero t = t
field_steps f (suc x) t = (hid f + t) * 2 ^ x

-- the steps of a pattern without its sign
abbrev steps : Format → ℕ → ℕ
steps f m = field_steps f (m / hid f) (m % hid f)

-- a field outweighs any digits
steps-below : (f : Format) (x t : ℕ) → t < hid f → field_steps f x t < hid f * 2 ^ x
steps-below f zero t h = rw mul-one h
steps-below f (suc x) t h = simp (two-pow-succ, mul-add, add-mul) (omega (arith, mul-lt-mul_of_pos_right h (pow_pos x)))

-- a larger field means more steps
field-rises : (f : Format) (x t y u : ℕ) → t < hid f → x < y → field_steps f x t < field_steps f y u
field-rises f x t zero u h l = absurd (omega arith)
field-rises f x t (suc y) u h l =
    lt_of_lt_of_le (steps-below f x t h) (mul-le-mul (le-add_right (hid f) u) (pow_mono (le_of_suc-le-suc l)))

-- so do, in one field, larger digits
digits-rise : (f : Format) (x t u : ℕ) → t < u → field_steps f x t < field_steps f x u
digits-rise f zero t u h = h
digits-rise f (suc x) t u h = mul-lt-mul_of_pos_right (omega arith) (pow_pos x)

-- so the steps rise with the pattern
steps-rise : (f : Format) (m n : ℕ) → m < n → steps f m < steps f n
steps-rise f m n h =
    elim (eq-or-lt_of_le (shr_mono (prec f - 1) (le_of_lt h))) [
      | inl e ↦
          let less : m % hid f < n % hid f = omega (arith, div-add-mod' m (hid f), div-add-mod' n (hid f), ap (λ q. q * hid f) e) in
          rw e (digits-rise f (n / hid f) _ _ less)
      | inr l ↦ field-rises f (m / hid f) (m % hid f) (n / hid f) (n % hid f) (mod-lt m (pow_pos (prec f - 1))) l
    ]

-- ---- comparisons that a rising function keeps

-- two tests with one outcome
pub leb_as : (a b c d : ℕ) → (a ≤ b → c ≤ d) → (b < a → d < c) → leb c d ≡ leb a b
leb_as a b c d p q = go (leb a b) refl
  where
    go : (t : Bool) → leb a b ≡ t → leb c d ≡ t
    go true e = le-leb c d (p (leb-true a b e))
    go false e = lt-leb c d (q (leb-false a b e))

pub ltb_as : (a b c d : ℕ) → (a < b → c < d) → (b ≤ a → d ≤ c) → ltb c d ≡ ltb a b
ltb_as a b c d p q = leb_as (suc a) b (suc c) d p (λ h. suc-le-suc (q (le_of_suc-le-suc h)))

-- a function that rises, and is 0 at 0, keeps `below`, the order of numbers with signs
module _ (g : ℕ → ℕ) (rise : (a b : ℕ) → a < b → g a < g b) where
  rise-le : (a b : ℕ) → a ≤ b → g a ≤ g b
  rise-le a b h = elim (eq-or-lt_of_le h) [ inl e ↦ le_of_eq (ap g e) | inr l ↦ le_of_lt (rise a b l) ]

  at_least : (n : ℕ) → n ≤ g n
  at_least zero = zero-le
  at_least (suc n) = lt_of_le_of_lt (at_least n) (rise n (suc n) (omega arith))

  below-keeps : (s t : Bool) (a b : ℕ) → g 0 ≡ 0 → below s (g a) t (g b) ≡ below s a t b
  below-keeps false false a b z = ltb_as a b (g a) (g b) (rise a b) (rise-le b a)
  below-keeps false true a b z = refl
  below-keeps true false a b z =
      ltb_as 0 (a + b) 0 (g a + g b)
      (λ h. omega (arith, at_least a, at_least b))
      (λ h. omega (arith, rise-le a 0 (omega arith), rise-le b 0 (omega arith)))
  below-keeps true true a b z = ltb_as b a (g b) (g a) (rise b a) (rise-le a b)

-- ---- the float that a number of steps stands for: c steps are 1, and from `most` steps on it is an infinity

abbrev Stands : ℕ → ℕ → Float → Bool → ℕ → Type 0
Stands c most nan s n = ⊥
Stands c most (inf t) s n = (t ≡ s) × (n ≡ most)
Stands c most (fin t m e) s n = (t ≡ s) × (m * up e * c ≡ n * down e) × (n < most)

-- `<` where one of the two, or both, is an infinity
both-infinite : (s t : Bool) (n : ℕ) → 0 < n → (s && not t) ≡ below s n t n
both-infinite false false n h = sym (le-ltb n n (omega arith))
both-infinite false true n h = refl
both-infinite true false n h = sym (lt-ltb 0 (n + n) (omega arith))
both-infinite true true n h = sym (le-ltb n n (omega arith))

left-infinite : (s t : Bool) (n b : ℕ) → b < n → s ≡ below s n t b
left-infinite false false n b h = sym (le-ltb n b (omega arith))
left-infinite false true n b h = refl
left-infinite true false n b h = sym (lt-ltb 0 (n + b) (omega arith))
left-infinite true true n b h = sym (lt-ltb b n h)

right-infinite : (s t : Bool) (a n : ℕ) → a < n → not t ≡ below s a t n
right-infinite false false a n h = sym (lt-ltb a n h)
right-infinite false true a n h = refl
right-infinite true false a n h = sym (lt-ltb 0 (a + n) (omega arith))
right-infinite true true a n h = sym (le-ltb n a (omega arith))

-- `<` of two fractions X / p and Y / q, which are a / c and b / c
below-scaled : (s t : Bool) (k a b : ℕ) → 0 < k → below s (a * k) t (b * k) ≡ below s a t b
below-scaled s t k a b h = below-keeps (λ n. n * k) (λ m n l. mul-lt-mul_of_pos_right l h) s t a b (zero-mul k)

both-finite : (s t : Bool) (X Y p q a b c : ℕ) → 0 < p → 0 < q → 0 < c → X * c ≡ a * p → Y * c ≡ b * q → below s (X * q) t (Y * p) ≡ below s a t b
both-finite s t X Y p q a b c P Q C x y =
    let left : X * q * c ≡ a * (p * q) = mul_right_comm X q c ∙ rw (x, mul_assoc) in
    let right : Y * p * c ≡ b * (p * q) = mul_right_comm Y p c ∙ rw (y, mul_assoc, mul_comm q p) in
    sym (below-scaled s t c (X * q) (Y * p) C) ∙ rw (left, right) (below-scaled s t (p * q) a b (mul-pos P Q))

-- `<` by the steps
lt-stands : (c most : ℕ) (x y : Float) (s t : Bool) (a b : ℕ) → 0 < c → 0 < most → Stands c most x s a → Stands c most y t b → lt x y ≡ below s a t b
unfolding lt
lt-stands c most nan y s t a b C M p q = absurd p
lt-stands c most (inf u) nan s t a b C M p q = absurd q
lt-stands c most (inf u) (inf v) s t a b C M p q = rw (p.0, p.1, q.0, q.1) (both-infinite s t most M)
lt-stands c most (inf u) (fin v n d) s t a b C M p q = rw (p.0, p.1) (left-infinite s t most b q.2)
lt-stands c most (fin u m e) nan s t a b C M p q = absurd q
lt-stands c most (fin u m e) (inf v) s t a b C M p q = rw (q.0, q.1) (right-infinite s t a most p.2)
lt-stands c most (fin u m e) (fin v n d) s t a b C M p q =
    rw (p.0, q.0) (both-finite s t (m * up e) (n * up d) (down e) (down d) a b c (down_pos e) (down_pos d) C p.1 q.1)

-- ---- what a pattern stands for

-- a field below the highest one
fields-finite : (f : Format) (s : Bool) (x t : ℕ) → x < ones f → HasValue (of_fields f s x t) s (field_steps f x t) (2 ^ low f)
unfolding of_fields
fields-finite f s zero t h = rw mul-one at (odd_sign (prec f) s t 0 (low f))
fields-finite f s (suc x) t h = rw (ne_eqb (suc x) (ones f) (λ e. omega arith)) (odd_sign (prec f) s (hid f + t) x (low f))

-- the highest field with no digits
fields-infinite : (f : Format) (s : Bool) (x : ℕ) → x ≡ ones f → of_fields f s x 0 ≡ inf s
unfolding of_fields
fields-infinite f s zero e = absurd (omega arith)
fields-infinite f s (suc x) e = rw (eq-eqb (suc x) (ones f) e)

-- a finite float by its value
as-finite : (c most : ℕ) (x : Float) (s : Bool) (n : ℕ) → n < most → HasValue x s n c → Stands c most x s n
as-finite c most nan s n h v = v
as-finite c most (inf t) s n h v = absurd v
as-finite c most (fin t m e) s n h v = (v.0, v.1, h)

-- the steps of the infinities
abbrev most : Format → ℕ
most f = steps f (ones f * hid f)

-- a sign, and a size up to that of the infinities
size-stands : (f : Format) (s : Bool) (m : ℕ) → m ≤ ones f * hid f → Stands (2 ^ low f) (most f) (of_fields f s (m / hid f) (m % hid f)) s (steps f m)
size-stands f s m h =
    let wide : 0 < hid f = pow_pos (prec f - 1) in
    elim (eq-or-lt_of_le h) [
      | inl e ↦ rw (e, mul-mod_left (ones f) (hid f), fields-infinite f s _ (mul-div_cancel (ones f) wide)) (refl, refl)
      | inr l ↦
          as-finite (2 ^ low f) (most f) (of_fields f s (m / hid f) (m % hid f)) s (steps f m) (steps-rise f m (ones f * hid f) l)
          (fields-finite f s (m / hid f) (m % hid f) ((div-lt_iff_lt-mul wide).1 l))
    ]

-- a pattern that is no NaN's
bits-stand : (f : Format) (b : ℕ) → nan_bits f b ≡ false → Stands (2 ^ low f) (most f) (of_bits f b) (leb (top f) b) (steps f (b % top f))
unfolding of_bits
bits-stand f b h =
    rw (← mod-mod_of_dvd (hid f) b (dvd-mul_right (hid f) (suc (ones f))))
    (size-stands f (leb (top f) b) (b % top f) (ltb-false (ones f * hid f) (b % top f) (sym (nan_bits_above f b) ∙ h)))

-- `<` on the floats of two patterns that are no NaN's is `<` on the patterns, each as a sign and a size
pub lt-bits : (f : Format) (x y : ℕ) → nan_bits f x ≡ false → nan_bits f y ≡ false → lt (of_bits f x) (of_bits f y) ≡ below (leb (top f) x) (x % top f) (leb (top f) y) (y % top f)
lt-bits f x y p q =
    let some : 0 < most f = lt_of_le_of_lt zero-le (steps-rise f 0 (ones f * hid f) (mul-pos (omega arith) (pow_pos (prec f - 1)))) in
    lt-stands (2 ^ low f) (most f) (of_bits f x) (of_bits f y) (leb (top f) x) (leb (top f) y) (steps f (x % top f)) (steps f (y % top f)) (pow_pos (low f)) some
    (bits-stand f x p)
    (bits-stand f y q)
    ∙ below-keeps (steps f) (steps-rise f) (leb (top f) x) (leb (top f) y) (x % top f) (y % top f) (rw (zero-div, zero-mod))
