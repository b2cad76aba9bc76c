-- The facts behind a test: of two tests joined, of a number, and of every element of a list.
use Prim.Native.Nat.{ℕ, zero, suc, ◌*◌, ◌/◌, ◌%◌, ◌<◌, zero-le, suc-le-suc}
use native.Mathlib.Nat.{le_of_suc-le-suc}
use native.Mathlib.Omega.{arith}
use mathlib.Core.Path.{◌≡◌, refl}
use mathlib.Core.List.{List, [], ◌∷◌}
use mathlib.Core.Bool.{Bool, false, not, ◌||◌}
use borrow.Author.Tests.{eqb-true, eqb-false, eq-eqb, ne_eqb, not-false}
use lib.Dec.{eqb}
use lib.ListN.{length, get_or}
use Rattle.lists.specs.Lists.{some}
use Rattle.lists.proofs.TestLaws.{neither-of}

-- two tests joined by "or", of which neither passes
pub neither : {a b : Bool} → a ≡ false → b ≡ false → (a || b) ≡ false
neither e g = rw (e, g)

-- ---- a number

-- a multiple of 3, by its remainder and back
pub by_three : (n : ℕ) → not (eqb (n % 3) 0) ≡ false → n ≡ 3 * (n / 3)
by_three n e = let r : n % 3 ≡ 0 = eqb-true _ _ (not-false _ e) in omega arith

pub even-threes : (n : ℕ) → n ≡ 3 * (n / 3) → not (eqb (n % 3) 0) ≡ false
even-threes n e = let r : n % 3 ≡ 0 = omega arith in rw (eq-eqb _ _ r)

-- above 0, and back
pub above_zero : (n : ℕ) → eqb n 0 ≡ false → 0 < n
above_zero n e = let z : n ≡ 0 → ⊥ = eqb-false n 0 e in omega arith

pub not-zero : (n : ℕ) → 0 < n → eqb n 0 ≡ false
not-zero n h = ne_eqb n 0 (λ (z : n ≡ 0). omega arith)

-- ---- a list

module _ {A : Type 0} (test : A → Bool) (d : A) where
  -- none passes exactly where each fails
  pub each-fails : (xs : List A) → some test xs ≡ false → (k : ℕ) → k < length xs → test (get_or xs k d) ≡ false
  unfolding some
  each-fails [] e k h = elim h [ ]
  each-fails (x ∷ xs) e zero h = (neither-of (test x) _ e).0
  each-fails (x ∷ xs) e (suc k) h = each-fails xs (neither-of (test x) _ e).1 k (le_of_suc-le-suc h)

  pub none_passes : (xs : List A) → ((k : ℕ) → k < length xs → test (get_or xs k d) ≡ false) → some test xs ≡ false
  unfolding some
  none_passes [] e = refl
  none_passes (x ∷ xs) e = neither (e 0 (suc-le-suc zero-le)) (none_passes xs (λ k h. e (suc k) (suc-le-suc h)))
