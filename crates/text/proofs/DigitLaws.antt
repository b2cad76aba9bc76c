-- Digits of numbers.
-- Assumes nothing.
use Prim.Native.Nat.{ℕ, zero, suc, ◌+◌, ◌-◌, ◌/◌, ◌%◌, ◌≤◌, ◌<◌}
use native.Mathlib.Omega.{arith}
use mathlib.Core.Path.{◌≡◌, refl, ◌∙◌}
use mathlib.Core.List.{List, [], ◌∷◌}
use mathlib.Core.Bool.{Bool, true, false, cond}
use lib.Dec.{ltb}
use lib.ListN.{length, set, length-append}
use lib.Seq.{sets}
use borrow.Author.Tests.{lt-ltb, le-ltb}
use Rattle.text.specs.Digits.{glyph, digits, digit_count}
use Rattle.lists.specs.Puts.{Put}
use Rattle.lists.proofs.PutLaws.{last-first, wider}

-- k digits are k bytes
pub digits-length : (base k n : ℕ) → length (digits base k n) ≡ k
unfolding digits
digits-length base zero n = refl
digits-length base (suc k) n =
    length-append (digits base k (n / base)) (glyph (n % base) ∷ []) ∙ omega (arith, digits-length base k (n / base))

-- the last digit stored, and those before it still to be
pub digit-more : (base k n at : ℕ) (old : List ℕ) → 0 < k →
    sets (set old (at + (k - 1)) (glyph (n % base))) at (digits base (k - 1) (n / base)) ≡ sets old at (digits base k n)
unfolding digits
digit-more base zero n at old some = absurd (omega arith)
digit-more base (suc k) n at old some =
    let less : suc k - 1 ≡ k = omega arith in
    rw less (last-first (digits base k (n / base)) old at k (glyph (n % base)) (digits-length base k (n / base)))

-- no more digits are counted than are asked for
pub digit-count-most : (k n : ℕ) → digit_count k n ≤ k + 1
unfolding digit_count
digit-count-most zero n = omega arith
digit-count-most (suc k) n = by (ltb n 10) (digit-count-most k (n / 10))
  where
    by : (small : Bool) → digit_count k (n / 10) ≤ k + 1 → cond small 1 (digit_count k (n / 10) + 1) ≤ suc k + 1
    by true below = omega arith
    by false below = omega arith

-- counting the digits of what is left of a number: the last, and one more
pub one_place : (k n : ℕ) → n < 10 → digit_count k n ≡ 1
unfolding digit_count
one_place zero n small = refl
one_place (suc k) n small = rw (lt-ltb n 10 small)

pub last-place : (k n : ℕ) → k ≡ 0 → digit_count k n ≡ 1
unfolding digit_count
last-place zero n none = refl
last-place (suc k) n none = absurd (omega arith)

pub next_place : (k n : ℕ) → 0 < k → 10 ≤ n → digit_count k n ≡ digit_count (k - 1) (n / 10) + 1
unfolding digit_count
next_place zero n some large = absurd (omega arith)
next_place (suc k) n some large =
    let less : suc k - 1 ≡ k = omega arith in
    rw (le-ltb n 10 large, less)

-- as many digits as a number has, stored, are the number in decimal
pub counted-stored : (most n : ℕ) {k at r : ℕ} {text old new : List ℕ} → (1 ≤ most) × (text ≡ digits 10 (digit_count (most - 1) n) n) →
    k ≡ digit_count (most - 1) n → Put k (digits 10 k n) at old new r → Put most text at old new r
counted-stored most n written counted done =
    let short : digit_count (most - 1) n ≤ most = omega (arith, digit-count-most (most - 1) n) in
    rw written.1 (wider short (rw counted at done))
