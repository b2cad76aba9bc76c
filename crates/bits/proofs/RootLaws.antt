-- The root that is computed meets the statement over whole numbers (`root-meets`), and nothing else does (`root-unique`).
-- So whoever shows the statement of a pattern has shown that it is the root (`nearest-is-root`).
use Rattle.std.proofs.Common.{◌≡◌, ℕ, zero, suc, ◌+◌, ◌-◌, ◌*◌, ◌^◌, ◌<◌, ◌≤◌, Bool, true, false, cond, not, T, ltb, sym, refl, inl, inr, le_trans, lt_trans, lt_of_lt_of_le, le_of_lt, add_assoc, lt_irrefl, mul-le-mul_right, mul-le-mul, eq-or-lt_of_le, mul-le-mul_left, add-sub_cancel, arith, lit≤, ltb→lt, nltb→le, le-ltb, lt-ltb, ne_eqb}
use native.Mathlib.Nat.{two-pow-succ}
use lib.Arith.{le→nltb}
use Rattle.bits.specs.Root.{steps, halfway, fourfold, largest, finite_root, root_bits, NearestRoot}
use Rattle.bits.proofs.RootSteps.{lt-or-le, steps-rise, halfway-rise}
use Rattle.bits.proofs.RootTies.{no_tie}

-- ---- the statement determines the answer

not-below : (b r s : ℕ) → NearestRoot b r → NearestRoot b s → r < s → ⊥
not-below b r s p q h =
    let up : halfway r ≤ halfway (s - 1) = halfway-rise r (s - 1) (omega arith) in
    lt_irrefl (halfway (s - 1) * halfway (s - 1)) (lt_of_lt_of_le (lt_trans (q.above (omega arith)) p.below) (mul-le-mul up up))

pub root-unique : (b r s : ℕ) → NearestRoot b r → NearestRoot b s → r ≡ s
root-unique b r s p q = elim (lt-or-le r s) [
  | inl h ↦ absurd (not-below b r s p q h)
  | inr h ↦ elim (eq-or-lt_of_le h) [ inl e ↦ sym e | inr l ↦ absurd (not-below b s r q p l) ]
]

-- ---- what the search by bits finds

module _ (test : ℕ → Bool) where
  -- it passes, unless it is the start
  passes : (k r : ℕ) → (0 < r → T (test r)) → 0 < largest test k r → T (test (largest test k r))
  unfolding largest
  passes zero r h = h
  passes (suc k) r h = passes k (cond (test (r + 2 ^ k)) (r + 2 ^ k) r) (go (test (r + 2 ^ k)) refl)
    where
      go : (t : Bool) → test (r + 2 ^ k) ≡ t → 0 < cond t (r + 2 ^ k) r → T (test (cond t (r + 2 ^ k) r))
      go true e p = rw e tt
      go false e p = h p

  -- and the next number fails, if the number above the whole range does
  stops : (k r : ℕ) → T (not (test (r + 2 ^ k))) → T (not (test (largest test k r + 1)))
  unfolding largest
  stops zero r h = h
  stops (suc k) r h = stops k (cond (test (r + 2 ^ k)) (r + 2 ^ k) r) (go (test (r + 2 ^ k)) refl)
    where
      go : (t : Bool) → test (r + 2 ^ k) ≡ t → T (not (test (cond t (r + 2 ^ k) r + 2 ^ k)))
      go true e = rw (add_assoc r (2 ^ k) (2 ^ k)) (rw (two-pow-succ k) at h)
      go false e = rw e tt

-- ---- the root that is computed

fourfold-rise : (a b : ℕ) → a < b → fourfold a ≤ fourfold b
unfolding fourfold
fourfold-rise a b h = go (2 ^ 149)
  where
    go : (w : ℕ) → 4 * (steps a * w) ≤ 4 * (steps b * w)
    go w = mul-le-mul_left 4 (mul-le-mul_right w (le_of_lt (steps-rise a b h)))

-- from the last finite pattern on, every half-way point, squared, is above every finite number
top : (b r : ℕ) → b < 0x7f80_0000 → 0x7f7f_ffff ≤ r → fourfold b ≤ halfway r * halfway r
top b r h l = le_trans (fourfold-rise b 0x7f80_0000 h) (le_trans last (mul-le-mul (halfway-rise 0x7f7f_ffff r l) (halfway-rise 0x7f7f_ffff r l)))
  where
    last : fourfold 0x7f80_0000 ≤ halfway 0x7f7f_ffff * halfway 0x7f7f_ffff
    last = unfold fourfold halfway steps in lit≤ tt

-- what the search asks of a pattern
abbrev test : ℕ → ℕ → Bool
test b r = ltb (halfway (r - 1) * halfway (r - 1)) (fourfold b)

found : (b r : ℕ) → (0 < r → T (test b r)) → T (not (test b (r + 1))) → NearestRoot b r
found b r p f = record {
  above = λ h. ltb→lt (halfway (r - 1) * halfway (r - 1)) (fourfold b) (p h);
  below = strict (nltb→le (halfway r * halfway r) (fourfold b) (rw (add-sub_cancel r 1) at f));
}
  where
    strict : fourfold b ≤ halfway r * halfway r → fourfold b < halfway r * halfway r
    strict h = elim (eq-or-lt_of_le h) [ inl e ↦ absurd (no_tie b r e) | inr l ↦ l ]

pub root-meets : (b : ℕ) → b < 0x7f80_0000 → NearestRoot b (finite_root b)
unfolding finite_root
root-meets b h =
    found b (finite_root b) (passes (test b) 31 0 (λ z. absurd (lt_irrefl 0 z)))
    (stops (test b) 31 0 (le→nltb (halfway 0x7fff_ffff * halfway 0x7fff_ffff) (fourfold b) (top b 0x7fff_ffff h (omega arith))))

pub nearest-is-root : (b r : ℕ) → b < 0x7f80_0000 → NearestRoot b r → r ≡ finite_root b
nearest-is-root b r h p = root-unique b r (finite_root b) p (root-meets b h)

pub root-of-zero : finite_root 0 ≡ 0
unfolding finite_root
root-of-zero = refl

-- ---- the root of any pattern

pub root_bits-finite : (b : ℕ) → b < 0x7f80_0000 → root_bits b ≡ finite_root b
unfolding root_bits
root_bits-finite b h = rw (lt-ltb b 0x7f80_0000 h)

pub root_bits-other : (b : ℕ) → 0x7f80_0000 ≤ b → (b ≡ 0x7f80_0000 → ⊥) → (b ≡ 0x8000_0000 → ⊥) → root_bits b ≡ 0x7fc0_0000
unfolding root_bits
root_bits-other b h i z = rw (le-ltb b 0x7f80_0000 h, ne_eqb b 0x7f80_0000 i, ne_eqb b 0x8000_0000 z)
