-- The order of pairs: to compare the costs or their keys, then keep, then remove is to compare the one number that they make.
-- Assumes nothing.
use Prim.Native.Nat.{ℕ, ◌+◌, ◌*◌, ◌^◌, ◌<◌}
use native.Mathlib.Nat.{mul-le-mul_right, suc-mul, le_of_lt}
use native.Mathlib.Omega.{arith}
use mathlib.Core.Path.{◌≡◌, refl, sym, ap, subst, ◌∙◌}
use mathlib.Core.Bool.{true}
use lib.IntN.{ℤ, pos, negsuc}
use lib.Dec.{T, ltb}
use lib.Signed.{lt_z, mag, ◌<ℤ◌}
use lib.Ieee.{Float, binary64, fits, lt, to_bits}
use lib.Ieee.Bits.{to_bits-lt, is_true}
use borrow.Author.Tests.{ltb-true, ltb-false, lt-ltb, le-ltb}
use mir.Syntax.{w64}
use mir.Val.{to_z, of_z}
use Rattle.std.proofs.Common.{to_z-of_z}
use Rattle.bits.specs.Order.{float_key, order_key}
use Rattle.bits.proofs.OrderLaws.{lt_order}
use Rattle.std.specs.Prelude.{Some}
use Rattle.std.specs.Ordering.{is_lt, is_some_and, partial_ordering_then, int_cmp, nat_cmp}
use Rattle.std.proofs.lemmas.Cmp.{by_ranked, ranked, int_ranked}
use Rattle.lists.proofs.TestLaws.{by-test}
use Rattle.meaning.specs.Arithmetic.{from_lowest}
use Rattle.openpairs.specs.declared.pairs.Ranked.{Ranked}
use Rattle.openpairs.specs.Clauses.Ranks.{rank}

-- a number with the greater first digit is greater
digits-first : {n a a' b : ℕ} (b' : ℕ) → b < n → a < a' → a * n + b < a' * n + b'
digits-first {n} {a} {a'} {b} b' within less = omega (arith, mul-le-mul_right n less, suc-mul a n)

-- two numbers compare as they do with another added to both
ltb-add : (k m n : ℕ) → ltb m n ≡ ltb (k + m) (k + n)
ltb-add k m n =
    by-test (ltb m n)
    (λ e. e ∙ sym (lt-ltb (k + m) (k + n) (omega (arith, ltb-true m n e))))
    (λ e. e ∙ sym (le-ltb (k + m) (k + n) (omega (arith, ltb-false m n e))))

-- keys compare as their numbers do
key-order : (a b : ℤ) → mag a < 2 ^ 63 → mag b < 2 ^ 63 → lt_z a b ≡ ltb (from_lowest a) (from_lowest b)
key-order (pos m) (pos n) ha hb = ltb-add (2 ^ 63) m n
key-order (pos m) (negsuc n) ha hb = sym (le-ltb (2 ^ 63 + m) (from_lowest (negsuc n)) (omega arith))
key-order (negsuc m) (pos n) ha hb = sym (lt-ltb (from_lowest (negsuc m)) (2 ^ 63 + n) (omega arith))
key-order (negsuc m) (negsuc n) ha hb =
    by-test (ltb n m)
    (λ e. e ∙ sym (lt-ltb (from_lowest (negsuc m)) (from_lowest (negsuc n)) (omega (arith, ltb-true n m e))))
    (λ e. e ∙ sym (le-ltb (from_lowest (negsuc m)) (from_lowest (negsuc n)) (omega (arith, ltb-false n m e))))

-- the numbers are those of a machine
pub record Sized (r : Ranked) : Type 0 where
  pub cost_fits : T (fits binary64 r.cost)
  pub keep_fits : r.keep < 2 ^ 32
  pub remove_fits : r.remove < 2 ^ 32

-- a float's key fits into a signed word
key-small : (x : Float) → T (fits binary64 x) → mag (float_key x) < 2 ^ 63
unfolding float_key order_key
key-small x fit =
    let b = to_bits binary64 x in
    let small : b < 2 ^ 64 = to_bits-lt binary64 x fit in
    by-test (ltb b (2 ^ 63))
    (λ e. rw e (ltb-true b (2 ^ 63) e))
    (λ e. rw e (omega (arith, ltb-false b (2 ^ 63) e)))

-- a key stays itself in the bits that a machine holds it in
pub key-held : {r : Ranked} → Sized r → {x : ℤ} → x ≡ float_key r.cost → to_z w64 (of_z w64 x) ≡ float_key r.cost
key-held {r} sized e =
    ap (λ (z : ℤ). to_z w64 (of_z w64 z)) e ∙ to_z-of_z {w = w64} (record { sfits = key-small r.cost sized.cost_fits })

-- the number that stands for a cost
abbrev pub by_cost : Ranked → ℕ
by_cost r = from_lowest (float_key r.cost)

module _ {a b : Ranked} (a-sized : Sized a) (b-sized : Sized b) where
  keys-order : lt_z (float_key a.cost) (float_key b.cost) ≡ ltb (by_cost a) (by_cost b)
  keys-order = key-order (float_key a.cost) (float_key b.cost) (key-small a.cost a-sized.cost_fits) (key-small b.cost b-sized.cost_fits)

  -- the lower key has the lower number
  lower : {x y : ℤ} → x ≡ float_key a.cost → y ≡ float_key b.cost → x <ℤ y → ltb (by_cost a) (by_cost b) ≡ true
  lower same-x same-y less = sym keys-order ∙ rw (← same-x, ← same-y) (is_true _ less.lt)

  -- the lower number for the cost comes first
  pub first-by-key : ltb (by_cost a) (by_cost b) ≡ true → rank a < rank b
  unfolding rank
  first-by-key e = digits-first b.remove a-sized.remove_fits (digits-first b.keep a-sized.keep_fits (ltb-true (by_cost a) (by_cost b) e))

  -- so the lower cost does
  pub first-by-cost : lt a.cost b.cost ≡ true → rank a < rank b
  first-by-cost less = first-by-key (sym keys-order ∙ lt_order a.cost b.cost a-sized.cost_fits b-sized.cost_fits (subst T (sym less) tt))

  module _ (same_key : by_cost a ≡ by_cost b) where
    -- of one key, the lower keep
    pub first-by-keep : a.keep < b.keep → rank a < rank b
    unfolding rank
    first-by-keep less =
        digits-first b.remove a-sized.remove_fits
        (rw same_key (omega arith))

    -- of one keep, the lower remove
    pub first-by-remove : a.keep ≡ b.keep → ltb a.remove b.remove ≡ ltb (rank a) (rank b)
    unfolding rank
    first-by-remove same-keep =
        let same : by_cost a * 2 ^ 32 + a.keep ≡ by_cost b * 2 ^ 32 + b.keep = rw (same_key, same-keep) refl in
        ltb-add ((by_cost a * 2 ^ 32 + a.keep) * 2 ^ 32) a.remove b.remove
        ∙ ap (λ (k : ℕ). ltb (rank a) (k * 2 ^ 32 + b.remove)) same

-- to compare the three numbers, one after another, is to compare the one
pub by-numbers : {a b : Ranked} → Sized a → Sized b → {x y : ℤ} → x ≡ float_key a.cost → y ≡ float_key b.cost →
    is_some_and is_lt (partial_ordering_then (partial_ordering_then (Some (int_cmp x y)) (Some (nat_cmp a.keep b.keep))) (Some (nat_cmp a.remove b.remove))) ≡ ltb (rank a) (rank b)
by-numbers {a} {b} a-sized b-sized {x} {y} same-x same-y =
    by_ranked (x <ℤ y) (x ≡ y) (y <ℤ x) (int_cmp x y) (int_ranked x y _ refl)
    (λ o less. rw o (sym (lt-ltb _ _ (first-by-key a-sized b-sized (lower a-sized b-sized same-x same-y less)))))
    (λ o same.
    let same_key : by_cost a ≡ by_cost b = ap from_lowest (sym same-x ∙ same ∙ same-y) in
    rw o
    (by_ranked (a.keep < b.keep) (a.keep ≡ b.keep) (b.keep < a.keep) (nat_cmp a.keep b.keep) (ranked a.keep b.keep _ refl)
    (λ o less. rw o (sym (lt-ltb _ _ (first-by-keep a-sized b-sized same_key less))))
    (λ o same. rw o (tested ∙ first-by-remove a-sized b-sized same_key same))
    (λ o more. rw o (sym (le-ltb _ _ (le_of_lt (first-by-keep b-sized a-sized (sym same_key) more)))))))
    (λ o more. rw o (sym (le-ltb _ _ (le_of_lt (first-by-key b-sized a-sized (lower b-sized a-sized same-y same-x more))))))
  where
    -- the test of the last two
    tested : is_some_and is_lt (Some (nat_cmp a.remove b.remove)) ≡ ltb a.remove b.remove
    tested =
        by_ranked (a.remove < b.remove) (a.remove ≡ b.remove) (b.remove < a.remove) (nat_cmp a.remove b.remove) (ranked a.remove b.remove _ refl)
        (λ o less. rw o (sym (lt-ltb _ _ less)))
        (λ o same. rw o (sym (le-ltb _ _ (omega (arith, same)))))
        (λ o more. rw o (sym (le-ltb _ _ (le_of_lt more))))
