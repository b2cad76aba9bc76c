-- Heaps by the ranks of their places: what an exchange does to one in which a place is too low or too high, and that none is below the root.
-- Assumes nothing.
use Prim.Native.Nat.{ℕ, zero, suc, ◌+◌, ◌*◌, ◌≤◌, ◌<◌}
use native.Mathlib.Nat.{le_refl}
use native.Mathlib.Omega.{arith}
use mathlib.Core.Path.{◌≡◌, sym, ap, ◌∙◌}
use mathlib.Core.Logic.{◌≢◌, ◌⊎◌, inl, inr, ⊎_elim}
use mathlib.Core.Bool.{Bool, true, false, not}
use lib.Dec.{ltb, eqb}
use borrow.Author.Tests.{lt-ltb, le-ltb, ltb-true, ltb-false, eqb-true, eqb-false, not-true, not-false}
use Rattle.lists.proofs.TestLaws.{by-test}
use Rattle.queue.specs.Clauses.Ranks.{over, Heap, lesser_of, LowestUnder}

-- two of the first n have changed places
pub record Exchanged {A : Type 0} (r r' : ℕ → A) (n i j : ℕ) : Type 0 where
  pub first : r' i ≡ r j
  pub second : r' j ≡ r i
  pub other : (k : ℕ) → k < n → k ≢ i → k ≢ j → r' k ≡ r k

-- by whether two numbers are the same
pub by-same : {C : Type 0} (m n : ℕ) → (m ≡ n → C) → (m ≢ n → C) → C
by-same m n same other = by-test (eqb m n) (λ e. same (eqb-true m n e)) (λ e. other (eqb-false m n e))

-- ---- a heap from a place on

-- the last three quarters have none under them
pub heap-quarters : (r : ℕ → ℕ) {lo n : ℕ} → n ≤ 4 * lo + 1 → Heap lo r n
heap-quarters r high k positive inside low = absurd (omega arith)

-- from a higher place on
pub heap-higher : (r : ℕ → ℕ) {lo lo' n : ℕ} → lo ≤ lo' → Heap lo r n → Heap lo' r n
heap-higher r up heap k positive inside low = heap k positive inside (omega arith)

-- ---- none is below the root

least-from : {r : ℕ → ℕ} {n : ℕ} → Heap 0 r n → (most i : ℕ) → i ≤ most → i < n → r 0 ≤ r i
least-from {r} heap zero i small inside =
    let root : i ≡ 0 = omega arith in
    omega (arith, ap r root)
least-from {r} heap (suc most) i small inside =
    by-same i 0
    (λ e. omega (arith, ap r e))
    (λ e. omega (arith, heap i (omega arith) inside (omega arith), least-from heap most (over i) (omega arith) (omega arith)))

pub least-at-root : {r : ℕ → ℕ} {n : ℕ} → Heap 0 r n → (i : ℕ) → i < n → r 0 ≤ r i
least-at-root heap i inside = least-from heap i i (le_refl i) inside

-- ---- an entry that moves up

-- A heap of n, but that the entry at a place may be below the one over it; that one is not above those under the place.
pub record Rising (r : ℕ → ℕ) (n at : ℕ) : Type 0 where
  pub within : at < n
  pub ordered : (k : ℕ) → 0 < k → k < n → k ≢ at → r (over k) ≤ r k
  pub past : (k : ℕ) → 0 < k → k < n → over k ≡ at → 0 < at → r (over at) ≤ r k

module _ {r : ℕ → ℕ} where
  -- after the last one of a heap
  pub rising-start : {n : ℕ} → Heap 0 r n → Rising r (n + 1) n
  rising-start heap =
      record {
        within = omega arith;
        ordered = λ k positive inside other. heap k positive (omega arith) (omega arith);
        past = λ k positive inside under above. absurd (omega arith);
      }

  -- at the root, or where it is not below the one over it, all is well
  pub rising-done : {n at : ℕ} → Rising r n at → (0 < at → r (over at) ≤ r at) → Heap 0 r n
  rising-done {n} {at} rising here k positive inside low =
      by-same k at
      (λ e. omega (arith, here (omega arith), ap r e, ap (λ (i : ℕ). r (over i)) e))
      (λ e. rising.ordered k positive inside e)

  -- by what the test says
  pub rising-stop : {n at : ℕ} {b : Bool} → Rising r n at → b ≡ ltb (r at) (r (over at)) → not b ≡ true → Heap 0 r n
  rising-stop {n} {at} {b} rising same fails =
      rising-done rising (λ above. ltb-false (r at) (r (over at)) (sym same ∙ not-true b fails))

  module _ {r' : ℕ → ℕ} {n at : ℕ} (rising : Rising r n at) (above : 0 < at) (lower : r at < r (over at)) (exchanged : Exchanged r r' n at (over at)) where
    rising-ordered : (k : ℕ) → 0 < k → k < n → k ≢ over at → r' (over k) ≤ r' k
    rising-ordered k positive inside other =
        by-same k at
        (λ e. omega (arith, ap r' e, ap (λ (i : ℕ). r' (over i)) e, exchanged.first, exchanged.second))
        (λ e.
        let same = exchanged.other k inside e other in
        by-same (over k) at
        (λ d. omega (arith, ap r' d, exchanged.first, rising.past k positive inside d above))
        (λ d.
        by-same (over k) (over at)
        (λ b. omega (arith, ap r' b, ap r b, exchanged.second, rising.ordered k positive inside e))
        (λ b. omega (arith, exchanged.other (over k) (omega arith) d b, rising.ordered k positive inside e))))

    rising-past : (k : ℕ) → 0 < k → k < n → over k ≡ over at → 0 < over at → r' (over (over at)) ≤ r' k
    rising-past k positive inside beside more =
        let inside-at = rising.within in
        let high = exchanged.other (over (over at)) (omega arith) (omega arith) (omega arith) in
        let middle = rising.ordered (over at) more (omega arith) (omega arith) in
        by-same k at
        (λ e. omega (arith, ap r' e, exchanged.first))
        (λ e. omega (arith, exchanged.other k inside e (omega arith), ap r beside, rising.ordered k positive inside e))

    pub rising-over : Rising r' n (over at)
    rising-over =
        let inside-at = rising.within in
        record { within = omega arith; ordered = rising-ordered; past = rising-past }

  pub rising-turn : {r' : ℕ → ℕ} {n at : ℕ} {b : Bool} → Rising r n at → 0 < at → b ≡ ltb (r at) (r (over at)) → not b ≡ false →
      Exchanged r r' n at (over at) → Rising r' n (over at)
  rising-turn {at = at} {b = b} rising above same passes = rising-over rising above (ltb-true (r at) (r (over at)) (sym same ∙ not-false b passes))

-- ---- the lowest of a place and those under it

module _ (r : ℕ → ℕ) (n i j : ℕ) where
  -- by what the tests say
  pub first-is-second : {b : Bool} → j < n → b ≡ ltb (r j) (r i) → b ≡ true → j ≡ lesser_of r n i j
  unfolding lesser_of
  first-is-second inside same lower = rw (lt-ltb j n inside, ← same, lower)

  pub first-stays : {b : Bool} → j < n → b ≡ ltb (r j) (r i) → b ≡ false → i ≡ lesser_of r n i j
  unfolding lesser_of
  first-stays inside same higher = rw (lt-ltb j n inside, ← same, higher)

  pub first_alone : n ≤ j → i ≡ lesser_of r n i j
  unfolding lesser_of
  first_alone outside = rw (le-ltb j n outside)

-- it is one of the two, and not above either
pub record Lower (r : ℕ → ℕ) (n i j first : ℕ) : Type 0 where
  pub within : first < n
  pub either : (first ≡ i) ⊎ (first ≡ j)
  pub one : r first ≤ r i
  pub two : j < n → r first ≤ r j

pub first-lower : {r : ℕ → ℕ} {n i j first : ℕ} → i < n → first ≡ lesser_of r n i j → Lower r n i j first
unfolding lesser_of
first-lower {r} {n} {i} {j} {first} inside e =
    by-test (ltb j n)
    (λ t.
    by-test (ltb (r j) (r i))
    (λ l. chosen-second (ltb-true j n t) (ltb-true (r j) (r i) l) (e ∙ rw (t, l)))
    (λ l. chosen-first (λ k. ltb-false (r j) (r i) l) (e ∙ rw (t, l))))
    (λ t. chosen-first (λ k. absurd (omega (arith, ltb-false j n t))) (e ∙ rw t))
  where
    chosen-second : j < n → r j < r i → first ≡ j → Lower r n i j first
    chosen-second k l d = record { within = omega arith; either = inr d; one = omega (arith, ap r d); two = λ m. omega (arith, ap r d) }

    chosen-first : (j < n → r i ≤ r j) → first ≡ i → Lower r n i j first
    chosen-first l d = record { within = omega arith; either = inl d; one = omega (arith, ap r d); two = λ m. omega (arith, ap r d, l m) }

-- of the four under a place, by three comparisons
pub lowest-found : {r : ℕ → ℕ} {n at second third first : ℕ} → Lower r n (4 * at + 1) (4 * at + 1 + 1) second → Lower r n second (4 * at + 1 + 2) third →
    Lower r n third (4 * at + 1 + 3) first → LowestUnder r n at first
lowest-found {r} {n} {at} {second} {third} {first} one two three =
    let (above, low) = ⊎_elim (λ d. ⊎_elim (λ e. ⊎_elim (λ g. under-by 0 (omega arith) (omega arith)) (λ g. under-by 1 (omega arith) (omega arith)) one.either)
    (λ e. under-by 2 (omega arith) (omega arith)) two.either) (λ d. under-by 3 (omega arith) (omega arith)) three.either in
    record {
      within = three.within;
      positive = above;
      under = low;
      lowest = λ k positive inside under.
          by-same k (4 * at + 1)
          (λ e. omega (arith, ap r e, one.one, two.one, three.one))
          (λ e.
          by-same k (4 * at + 1 + 1)
          (λ d. omega (arith, ap r d, one.two (omega arith), two.one, three.one))
          (λ d.
          by-same k (4 * at + 1 + 2)
          (λ b. omega (arith, ap r b, two.two (omega arith), three.one))
          (λ b.
          let last : k ≡ 4 * at + 1 + 3 = omega arith in
          omega (arith, ap r last, three.two (omega arith)))));
    }
  where
    under-by : (m : ℕ) → m < 4 → first ≡ 4 * at + 1 + m → (0 < first) × (over first ≡ at)
    under-by m small e = (omega arith, omega arith)

-- ---- an entry that moves down

-- A heap of n from place lo on, but that the entry at a place may be above those under it; the one over the place is not above those.
pub record Sinking (lo : ℕ) (r : ℕ → ℕ) (n at : ℕ) : Type 0 where
  pub low : lo ≤ at
  pub ordered : (k : ℕ) → 0 < k → k < n → lo ≤ over k → over k ≢ at → r (over k) ≤ r k
  pub past : (k : ℕ) → 0 < k → k < n → over k ≡ at → 0 < at → lo ≤ over at → r (over at) ≤ r k

module _ {r : ℕ → ℕ} {lo n : ℕ} where
  -- over a heap
  pub sinking-start : Heap (lo + 1) r n → Sinking lo r n lo
  sinking-start heap =
      record {
        low = le_refl lo;
        ordered = λ k positive inside down other. heap k positive inside (omega arith);
        past = λ k positive inside under above down. absurd (omega arith);
      }

  -- where it is not above those under it, all is well
  pub sinking-done : {at : ℕ} → Sinking lo r n at → ((k : ℕ) → 0 < k → k < n → over k ≡ at → r at ≤ r k) → Heap lo r n
  sinking-done {at} sinking here k positive inside down =
      by-same (over k) at
      (λ e. omega (arith, here k positive inside e, ap r e))
      (λ e. sinking.ordered k positive inside down e)

  -- nor above the lowest of them
  pub sinking-stop : {at first : ℕ} → Sinking lo r n at → LowestUnder r n at first → r at ≤ r first → Heap lo r n
  sinking-stop sinking low here =
      sinking-done sinking (λ k positive inside under. omega (arith, here, low.lowest k positive inside under))

  module _ {r' : ℕ → ℕ} {at first : ℕ} (sinking : Sinking lo r n at) (low : LowestUnder r n at first) (below-it : r first ≤ r at) (exchanged : Exchanged r r' n at first) where
    sinking-ordered : (k : ℕ) → 0 < k → k < n → lo ≤ over k → over k ≢ first → r' (over k) ≤ r' k
    sinking-ordered k above inside down other =
        let inside-first = low.within in
        let positive = low.positive in
        let under = low.under in
        by-same (over k) at
        (λ e.
        by-same k first
        (λ d. omega (arith, ap r' e, ap r' d, exchanged.first, exchanged.second, below-it))
        (λ d. omega (arith, ap r' e, exchanged.first, exchanged.other k inside (omega arith) d, low.lowest k above inside e)))
        (λ e.
        let same = exchanged.other (over k) (omega arith) e other in
        by-same k at
        (λ d.
        let places : over k ≡ over at = ap over d in
        omega (arith, ap r places, ap r' d, exchanged.first, sinking.past first positive inside-first under (omega arith) (omega arith)))
        (λ d. omega (arith, exchanged.other k inside d (λ b. e (omega (arith, ap over b))), sinking.ordered k above inside down e)))

    sinking-past : (k : ℕ) → 0 < k → k < n → over k ≡ first → 0 < first → lo ≤ over first → r' (over first) ≤ r' k
    sinking-past k above inside e more down =
        let under = low.under in
        let same = exchanged.other k inside (omega arith) (omega arith) in
        omega (arith, ap r' under, exchanged.first, ap r e, sinking.ordered k above inside (omega (arith, sinking.low)) (omega arith))

    pub sinking-turn : Sinking lo r' n first
    sinking-turn =
        let under = low.under in
        record { low = omega (arith, sinking.low, low.positive); ordered = sinking-ordered; past = sinking-past }
