-- The signed key is IEEE totalOrder, on every two patterns, NaNs too (`key-is-order`). On floats the key tells -0.0 from +0.0, keeps `<`,
-- and is a different one for each float. Both orders are read off a pattern's sign and size, its number without the sign bit.
use Rattle.std.proofs.Common.{◌≡◌, ℕ, ◌+◌, ◌-◌, ◌%◌, ◌^◌, ◌<◌, ◌≤◌, Bool, true, false, cond, not, ◌&&◌, ◌||◌, T, ltb, leb, ℤ, pos, negsuc, sym, refl, ap, ◌∙◌, lt_of_le_of_lt, arith, ltb-false, ltb-true, le-ltb, lt-ltb, le-leb, leb-false, leb-true}
use mathlib.Core.Bool.{or-true, and-false}
use lib.IntN.{pos-ne-negsuc}
use lib.Signed.{le_z, lt_z}
use lib.Ieee.{Float, nan, inf, fin, binary64, below, lt, fits, is_nan, of_bits, to_bits, nan_bits}
use lib.Ieee.Bits.{is_true, of_bits-to_bits, to_bits-lt, nan_bits_is, nan_bits_above}
use borrow.Author.Tests.{lt-leb}
use Rattle.bits.specs.Order.{negative, quiet, payload, nan_order, total_order, order_key, float_key}
use Rattle.bits.proofs.PatternOrder.{leb_as, lt-bits}

-- ---- by sign and size

-- the pattern without its sign
abbrev size : ℕ → ℕ
size b = b % 2 ^ 63

-- the key of a sign and a size
abbrev key : Bool → ℕ → ℤ
key false m = pos m
key true m = negsuc m

-- the key of a pattern is that of its sign and size
key-is : (b : ℕ) → b < 2 ^ 64 → order_key b ≡ key (negative b) (size b)
unfolding order_key
key-is b h = go (ltb b (2 ^ 63)) refl
  where
    go : (t : Bool) → ltb b (2 ^ 63) ≡ t → cond t (pos b) (negsuc (b - 2 ^ 63)) ≡ key (negative b) (size b)
    go true e =
        let l : b < 2 ^ 63 = ltb-true b (2 ^ 63) e in
        let m : b ≡ size b = omega arith in
        rw lt-leb (ap pos m)
    go false e =
        let l : 2 ^ 63 ≤ b = ltb-false b (2 ^ 63) e in
        let m : b - 2 ^ 63 ≡ size b = omega arith in
        rw le-leb (ap negsuc m)

-- ---- two NaNs: signaling below quiet and then by payload is the order of sizes

-- for two patterns above the infinities', by which of them is quiet
nan-order : (x y : ℕ) (a b : Bool) → 0x7ff0_0000_0000_0000 < size x → 0x7ff0_0000_0000_0000 < size y → quiet x ≡ a → quiet y ≡ b → nan_order x y ≡ leb (size x) (size y)
unfolding nan_order
nan-order x y true true p q d e = rw (d, e) (leb_as (size x) (size y) (payload x) (payload y) (λ h. omega (arith, leb-true)) (λ h. omega (arith, leb-true)))
nan-order x y true false p q d e = rw (d, e) (sym (lt-leb (size x) (size y) (omega (arith, leb-true, leb-false))))
nan-order x y false true p q d e = rw (d, e) (sym (le-leb (size x) (size y) (omega (arith, leb-true, leb-false))))
nan-order x y false false p q d e = rw (d, e) (leb_as (size x) (size y) (payload x) (payload y) (λ h. omega (arith, leb-false)) (λ h. omega (arith, leb-false)))

-- ---- the order of keys, in the words of each case of totalOrder

-- at most: less, or not greater
leb-tests : (a b : ℕ) → leb a b ≡ (ltb a b || (not (ltb b a) && true))
leb-tests a b = go (leb a b) refl
  where
    go : (t : Bool) → leb a b ≡ t → t ≡ (ltb a b || (not (ltb b a) && true))
    go true e = rw (le-ltb b a (leb-true a b e)) (sym (or-true (ltb a b)))
    go false e =
        let l : b < a = leb-false a b e in
        rw (le-ltb a b (omega arith), lt-ltb b a l)

-- two numbers
two-numbers : (s t : Bool) (m n : ℕ) → le_z (key s m) (key t n) ≡ (below s m t n || (not (below t n s m) && (s || not t)))
two-numbers false false m n = leb-tests m n
two-numbers false true m n = sym (and-false (not (ltb 0 (n + m))))
two-numbers true false m n = sym (or-true (ltb 0 (m + n)))
two-numbers true true m n = leb-tests n m

-- two NaNs
two-nans : (s t : Bool) (m n : ℕ) → le_z (key s m) (key t n) ≡ cond s (not t || leb n m) (not t && leb m n)
two-nans false false m n = refl
two-nans false true m n = refl
two-nans true false m n = refl
two-nans true true m n = refl

-- a NaN and a number: the larger size decides by its sign
left-larger : (s t : Bool) (m n : ℕ) → n < m → le_z (key s m) (key t n) ≡ s
left-larger false false m n h = lt-leb m n h
left-larger false true m n h = refl
left-larger true false m n h = refl
left-larger true true m n h = le-leb n m (omega arith)

right-larger : (s t : Bool) (m n : ℕ) → m < n → le_z (key s m) (key t n) ≡ not t
right-larger false false m n h = le-leb m n (omega arith)
right-larger false true m n h = refl
right-larger true false m n h = refl
right-larger true true m n h = lt-leb n m h

-- ---- totalOrder

-- the size of a NaN is above that of the infinities, and of no other pattern
nan-size : (b : ℕ) → nan_bits binary64 b ≡ true → 0x7ff0_0000_0000_0000 < size b
nan-size b h = ltb-true 0x7ff0_0000_0000_0000 (size b) (sym (nan_bits_above binary64 b) ∙ h)

number_size : (b : ℕ) → nan_bits binary64 b ≡ false → size b ≤ 0x7ff0_0000_0000_0000
number_size b h = ltb-false 0x7ff0_0000_0000_0000 (size b) (sym (nan_bits_above binary64 b) ∙ h)

-- by which of the two is a NaN
by_parts : (x y : ℕ) (p q : Bool) → nan_bits binary64 x ≡ p → nan_bits binary64 y ≡ q → le_z (key (negative x) (size x)) (key (negative y) (size y)) ≡ total_order x y
unfolding total_order
by_parts x y true true p q =
    rw (p, q, nan-order x y _ _ (nan-size x p) (nan-size y q) refl refl, nan-order y x _ _ (nan-size y q) (nan-size x p) refl refl) (two-nans (negative x) (negative y) (size x) (size y))
by_parts x y true false p q = rw (p, q) (left-larger (negative x) (negative y) (size x) (size y) (lt_of_le_of_lt (number_size y q) (nan-size x p)))
by_parts x y false true p q = rw (p, q) (right-larger (negative x) (negative y) (size x) (size y) (lt_of_le_of_lt (number_size x p) (nan-size y q)))
by_parts x y false false p q = rw (p, q, lt-bits binary64 x y p q, lt-bits binary64 y x q p) (two-numbers (negative x) (negative y) (size x) (size y))

-- the key's order is totalOrder
pub key-is-order : (x y : ℕ) → x < 2 ^ 64 → y < 2 ^ 64 → le_z (order_key x) (order_key y) ≡ total_order x y
key-is-order x y p q = rw (key-is x p, key-is y q) (by_parts x y _ _ refl refl)

-- ---- one key, one pattern

-- patterns with one key are one pattern
pub key-injective : (x y : ℕ) → order_key x ≡ order_key y → x ≡ y
unfolding order_key
key-injective x y = go (ltb x (2 ^ 63)) (ltb y (2 ^ 63)) refl refl
  where
    go : (a b : Bool) → ltb x (2 ^ 63) ≡ a → ltb y (2 ^ 63) ≡ b → cond a (pos x) (negsuc (x - 2 ^ 63)) ≡ cond b (pos y) (negsuc (y - 2 ^ 63)) → x ≡ y
    go true true p q e = cc
    go true false p q e = absurd (pos-ne-negsuc _ _ e)
    go false true p q e = absurd (pos-ne-negsuc _ _ (sym e))
    go false false p q e =
        let rest : x - 2 ^ 63 ≡ y - 2 ^ 63 = cc in
        omega (arith, ltb-false)

-- ---- on floats

-- -0.0 comes before +0.0
pub zero-order : lt_z (float_key (fin true 0 (pos 0))) (float_key (fin false 0 (pos 0))) ≡ true
unfolding float_key
zero-order = refl

-- `<` on signs and sizes is `<` on keys, where it holds
strict : (s t : Bool) (m n : ℕ) → below s m t n ≡ true → lt_z (key s m) (key t n) ≡ true
strict false false m n h = h
strict false true m n h = h
strict true false m n h = refl
strict true true m n h = h

-- `<` has two numbers on its sides
numbers : (x y : Float) → T (lt x y) → (is_nan x ≡ false) × (is_nan y ≡ false)
unfolding lt is_nan
numbers nan y h = absurd h
numbers (inf s) nan h = absurd h
numbers (inf s) (inf t) h = (refl, refl)
numbers (inf s) (fin t n d) h = (refl, refl)
numbers (fin s m e) nan h = absurd h
numbers (fin s m e) (inf t) h = (refl, refl)
numbers (fin s m e) (fin t n d) h = (refl, refl)

-- what is less comes before
pub lt_order : (x y : Float) → T (fits binary64 x) → T (fits binary64 y) → T (lt x y) → lt_z (float_key x) (float_key y) ≡ true
unfolding float_key
lt_order x y p q h =
    let a = to_bits binary64 x in
    let b = to_bits binary64 y in
    let back : of_bits binary64 a ≡ x = of_bits-to_bits binary64 x p in
    let back' : of_bits binary64 b ≡ y = of_bits-to_bits binary64 y q in
    let number : nan_bits binary64 a ≡ false = nan_bits_is binary64 a ∙ rw back (numbers x y h).0 in
    let number' : nan_bits binary64 b ≡ false = nan_bits_is binary64 b ∙ rw back' (numbers x y h).1 in
    let less : lt (of_bits binary64 a) (of_bits binary64 b) ≡ true = rw (back, back') (is_true (lt x y) h) in
    rw (key-is a (to_bits-lt binary64 x p), key-is b (to_bits-lt binary64 y q))
    (strict (negative a) (negative b) (size a) (size b) (sym (lt-bits binary64 a b number number') ∙ less))

-- floats with one key are one float
pub float-key-injective : (x y : Float) → T (fits binary64 x) → T (fits binary64 y) → float_key x ≡ float_key y → x ≡ y
unfolding float_key
float-key-injective x y p q e =
    sym (of_bits-to_bits binary64 x p) ∙ ap (of_bits binary64) (key-injective (to_bits binary64 x) (to_bits binary64 y) e) ∙ of_bits-to_bits binary64 y q
