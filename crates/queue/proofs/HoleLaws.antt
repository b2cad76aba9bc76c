-- Entries that are moved through a hole: each move exchanges the hole with a place, so they stay the same entries in another order.
-- Assumes nothing.
use Prim.Native.Nat.{ℕ, ◌+◌, ◌*◌, ◌≤◌, ◌<◌}
use native.Mathlib.Omega.{arith}
use mathlib.Core.Path.{◌≡◌, refl, sym, ap, ◌∙◌}
use mathlib.Core.Logic.{◌≢◌}
use mathlib.Core.List.{List}
use mathlib.Core.Bool.{Bool, true, false, not, cond}
use lib.Dec.{ltb, eqb}
use lib.Ieee.{Float}
use borrow.Author.Tests.{eq-eqb, ne_eqb, ltb-true, ltb-false, not-true, not-false}
use Rattle.lists.specs.Lists.{sum, below, SameBag}
use Rattle.lists.proofs.SumLaws.{sum-map}
use Rattle.lists.proofs.BelowLaws.{sum-same-below, sum-changed}
use Rattle.memory.specs.declared.entries.Entry.{Entry}
use Rattle.memory.specs.Entries.{entry_in, EntryRoom, EntriesOnly, EntrySet}
use Rattle.memory.proofs.EntryLaws.{only-refl, only_then, room-only}
use Rattle.openpairs.specs.Clauses.Ranks.{rank}
use Rattle.openpairs.specs.declared.pairs.Ranked.{Ranked}
use Rattle.queue.specs.Stored.{entries_in, ranked_of, entry_rank}
use Rattle.queue.specs.Clauses.Ranks.{ranked_in, rank_in, over, Heap, LowestUnder}
use Rattle.queue.specs.Clauses.Order.{filled, ranks, Shuffled, Sunk, Sifted}
use Rattle.queue.proofs.HeapLaws.{Exchanged, by-same, Rising, Sinking, rising-start, rising-over, sinking-start, sinking-turn}

-- ---- what stands where

module _ (es : ℕ → Entry) (hole : ℕ) (e : Entry) where
  pub filled-here : filled es hole e hole ≡ e
  filled-here = rw (eq-eqb hole hole refl)

  pub filled-other : (k : ℕ) → k ≢ hole → filled es hole e k ≡ es k
  filled-other k apart = rw (ne_eqb k hole apart)

-- with what was there
pub filled-same : (es : ℕ → Entry) (hole k : ℕ) → filled es hole (es hole) k ≡ es k
filled-same es hole k = by-same k hole (λ d. ap (filled es hole (es hole)) d ∙ filled-here es hole (es hole) ∙ ap es (sym d)) (filled-other es hole (es hole) k)

-- once an entry is written
pub set-filled : {v f : ℕ} {w : List ℕ} {p q : List Float} {i : ℕ} {e : Entry} {w' : List ℕ} {p' q' : List Float} → EntrySet v f w p q i e w' p' q' →
    (k : ℕ) → entry_in v f w' p' q' k ≡ filled (entry_in v f w p q) i e k
set-filled {v} {f} {w} {p} {q} {i} {e} {w'} {p'} {q'} written k =
    let es = entry_in v f w p q in
    by-same k i
    (λ d. ap (entry_in v f w' p' q') d ∙ written.here ∙ sym (ap (filled es i e) d ∙ filled-here es i e))
    (λ d. written.other k d ∙ sym (filled-other es i e k d))

-- ---- the same entries in another order

pub shuffled-same : {n : ℕ} {es es' : ℕ → Entry} → ((k : ℕ) → k < n → es' k ≡ es k) → Shuffled n es es'
shuffled-same {n} {es} {es'} same = record {
  sums = λ g. sum-same-below (λ i. g (es' i)) (λ i. g (es i)) n (λ k l. ap g (same k l));
  from = λ i l. (i, l, same i l);
}

pub shuffled-then : {n : ℕ} {es es' es'' : ℕ → Entry} → Shuffled n es es' → Shuffled n es' es'' → Shuffled n es es''
shuffled-then one two = record {
  sums = λ g. two.sums g ∙ one.sums g;
  from = λ i l.
      let (j, m, here) = two.from i l in
      let (k, o, there) = one.from j m in
      (k, o, here ∙ there);
}

-- two values have changed places: the sum is as before
exchanged-sum : {h h' : ℕ → ℕ} {n i j : ℕ} → i < n → j < n → Exchanged h h' n i j → sum h' (below n) ≡ sum h (below n)
exchanged-sum {h} {h'} {n} {i} {j} inside-i inside-j exchanged =
    let between : ℕ → ℕ = λ k. cond (eqb k i) (h j) (h k) in
    let between-i : between i ≡ h j = rw (eq-eqb i i refl) in
    let between-other : (k : ℕ) → k ≢ i → between k ≡ h k = λ k other. rw (ne_eqb k i other) in
    let between-j : between j ≡ h j = by-same j i (λ e. ap between e ∙ between-i) (between-other j) in
    let one = sum-changed h between n i inside-i (λ k l other. between-other k other) in
    let two = sum-changed between h' n j inside-j
    (λ k l other. by-same k i
    (λ e. ap h' e ∙ exchanged.first ∙ sym between-i ∙ ap between (sym e))
    (λ e. exchanged.other k l e other ∙ sym (between-other k e))) in
    omega (arith, exchanged.second)

-- the same of a rule of what stands there
pub exchanged-by : {A B : Type 0} (g : A → B) {es es' : ℕ → A} {n i j : ℕ} → Exchanged es es' n i j → Exchanged (λ k. g (es k)) (λ k. g (es' k)) n i j
exchanged-by g exchanged = record {
  first = ap g exchanged.first;
  second = ap g exchanged.second;
  other = λ k l one two. ap g (exchanged.other k l one two);
}

exchanged-shuffled : {n : ℕ} {es es' : ℕ → Entry} {i j : ℕ} → i < n → j < n → Exchanged es es' n i j → Shuffled n es es'
exchanged-shuffled {n} {es} {es'} {i} {j} in-i in-j exchanged = record {
  sums = λ g. exchanged-sum in-i in-j (exchanged-by g exchanged);
  from = λ k l.
      by-same k i
      (λ d. (j, in-j, ap es' d ∙ exchanged.first))
      (λ d. by-same k j (λ b. (i, in-i, ap es' b ∙ exchanged.second)) (λ b. (k, l, exchanged.other k l d b)));
}

-- ---- ranks

-- an entry in memory is compared by what its place is compared by
pub entry-rank : (v f : ℕ) (w : List ℕ) (p q : List Float) (i : ℕ) → entry_rank (entry_in v f w p q i) ≡ rank_in v f w q i
unfolding entry_rank rank_in rank
entry-rank v f w p q i = refl

-- a heap by other ranks that are the same from place lo on
pub heap-agree : {lo n : ℕ} {r r' : ℕ → ℕ} → ((k : ℕ) → lo ≤ k → k < n → r' k ≡ r k) → Heap lo r n → Heap lo r' n
heap-agree same heap k positive inside low =
    omega (arith, same k (omega arith) inside, same (over k) low (omega arith), heap k positive inside low)

-- the lowest under a place, by ranks that are the same but there
lowest-agree : {r r' : ℕ → ℕ} {n at first : ℕ} → ((k : ℕ) → k ≢ at → r' k ≡ r k) → LowestUnder r n at first → LowestUnder r' n at first
lowest-agree {at = at} {first = first} same low =
    let positive = low.positive in
    let under = low.under in
    record {
      within = low.within;
      positive = positive;
      under = under;
      lowest = λ k above inside under-k.
          omega (arith, same k (omega arith), same first (omega arith), low.lowest k above inside under-k);
    }

-- ---- a hole that moves

-- the entry that is to stand in the hole and those of the first n are those that there were, in another order
pub record Moving (v f n : ℕ) (w₀ : List ℕ) (p₀ q₀ : List Float) (hole₀ : ℕ) (e : Entry) (w : List ℕ) (p q : List Float) (hole : ℕ) : Type 0 where
  pub only : EntriesOnly v f w₀ p₀ q₀ w p q
  pub enough : EntryRoom v f w p q
  pub few : n ≤ 3 * f
  pub inside : hole < 3 * f
  pub shuffled : Shuffled n (filled (entry_in v f w₀ p₀ q₀) hole₀ e) (filled (entry_in v f w p q) hole e)

pub moving-start : {v f n : ℕ} {w : List ℕ} {p q : List Float} {hole : ℕ} (e : Entry) → n ≤ 3 * f → hole < 3 * f → EntryRoom v f w p q → Moving v f n w p q hole e w p q hole
moving-start {v} {f} {n} {w} {p} {q} {hole} e few inside enough =
    record { only = only-refl v f w p q; enough = enough; few = few; inside = inside; shuffled = shuffled-same (λ k l. refl) }

module _ {v f : ℕ} {w : List ℕ} {p q : List Float} {hole from : ℕ} {w' : List ℕ} {p' q' : List Float} (e : Entry) (apart : from ≢ hole)
    (moved : EntrySet v f w p q hole (entry_in v f w p q from) w' p' q') where
  -- the hole and the place that is emptied change places
  pub hole-exchanged : (n : ℕ) → Exchanged (filled (entry_in v f w p q) hole e) (filled (entry_in v f w' p' q') from e) n hole from
  hole-exchanged n =
      let es = entry_in v f w p q in
      let es' = entry_in v f w' p' q' in
      record {
        first = filled-other es' from e hole (λ d. apart (sym d)) ∙ moved.here ∙ sym (filled-other es hole e from apart);
        second = filled-here es' from e ∙ sym (filled-here es hole e);
        other = λ k l one two. filled-other es' from e k two ∙ moved.other k one ∙ sym (filled-other es hole e k one);
      }

  pub moving-turn : {n : ℕ} {w₀ : List ℕ} {p₀ q₀ : List Float} {hole₀ : ℕ} → hole < n → from < n → Moving v f n w₀ p₀ q₀ hole₀ e w p q hole →
      Moving v f n w₀ p₀ q₀ hole₀ e w' p' q' from
  moving-turn {n} hole-in from_in before =
      let few = before.few in
      record {
        only = only_then before.only moved.only;
        enough = room-only moved.only before.enough;
        few = few;
        inside = omega arith;
        shuffled = shuffled-then before.shuffled (exchanged-shuffled hole-in from_in (hole-exchanged n));
      }

  ranks-exchanged : (n : ℕ) → Exchanged (ranks (filled (entry_in v f w p q) hole e)) (ranks (filled (entry_in v f w' p' q') from e)) n hole from
  ranks-exchanged n = exchanged-by entry_rank (hole-exchanged n)

  pub sinking-moved : {lo n : ℕ} → Sinking lo (ranks (filled (entry_in v f w p q) hole e)) n hole → LowestUnder (ranks (filled (entry_in v f w p q) hole e)) n hole from →
      ranks (filled (entry_in v f w p q) hole e) from ≤ ranks (filled (entry_in v f w p q) hole e) hole → Sinking lo (ranks (filled (entry_in v f w' p' q') from e)) n from
  sinking-moved {n = n} sinking low less = sinking-turn sinking low less (ranks-exchanged n)

  pub rising-moved : {n : ℕ} → Rising (ranks (filled (entry_in v f w p q) hole e)) n hole → 0 < hole → from ≡ over hole →
      ranks (filled (entry_in v f w p q) hole e) hole < ranks (filled (entry_in v f w p q) hole e) from → Rising (ranks (filled (entry_in v f w' p' q') from e)) n from
  rising-moved {n} rising above is less =
      rw is (rising-over rising above (rw is at less) (rw is at (ranks-exchanged n)))

-- ---- the tests

module _ (v f : ℕ) (w : List ℕ) (p q : List Float) (hole : ℕ) (e : Entry) where
  -- the ranks of what stands there: that of the entry in the hole, and of the others those of their places
  pub rank-here : ranks (filled (entry_in v f w p q) hole e) hole ≡ entry_rank e
  rank-here = ap entry_rank (filled-here (entry_in v f w p q) hole e)

  pub rank-other : (k : ℕ) → k ≢ hole → ranks (filled (entry_in v f w p q) hole e) k ≡ rank_in v f w q k
  rank-other k apart = ap entry_rank (filled-other (entry_in v f w p q) hole e k apart) ∙ entry-rank v f w p q k

  pub lowest-filled : {n first : ℕ} → LowestUnder (rank_in v f w q) n hole first → LowestUnder (ranks (filled (entry_in v f w p q) hole e)) n hole first
  lowest-filled low = lowest-agree rank-other low

  -- by what a comparison of a place with the entry says
  module _ {i : ℕ} (apart : i ≢ hole) {own there : Ranked} (own_is : own ≡ ranked_of e) (there-is : there ≡ ranked_in v f w q i) where
    own-rank : rank own ≡ ranks (filled (entry_in v f w p q) hole e) hole
    unfolding entry_rank
    own-rank = ap rank own_is ∙ sym rank-here

    there-rank : rank there ≡ ranks (filled (entry_in v f w p q) hole e) i
    unfolding rank_in
    there-rank = ap rank there-is ∙ sym (rank-other i apart)

    pub there-lower : {b : Bool} → b ≡ ltb (rank there) (rank own) → not b ≡ false → ranks (filled (entry_in v f w p q) hole e) i < ranks (filled (entry_in v f w p q) hole e) hole
    there-lower {b} told passes = rw (own-rank, there-rank) at (ltb-true (rank there) (rank own) (sym told ∙ not-false b passes))

    pub there-above : {b : Bool} → b ≡ ltb (rank there) (rank own) → not b ≡ true → ranks (filled (entry_in v f w p q) hole e) hole ≤ ranks (filled (entry_in v f w p q) hole e) i
    there-above {b} told fails = rw (own-rank, there-rank) at (ltb-false (rank there) (rank own) (sym told ∙ not-true b fails))

    pub own-lower : {b : Bool} → b ≡ ltb (rank own) (rank there) → not b ≡ false → ranks (filled (entry_in v f w p q) hole e) hole < ranks (filled (entry_in v f w p q) hole e) i
    own-lower {b} told passes = rw (own-rank, there-rank) at (ltb-true (rank own) (rank there) (sym told ∙ not-false b passes))

    pub own-above : {b : Bool} → b ≡ ltb (rank own) (rank there) → not b ≡ true → ranks (filled (entry_in v f w p q) hole e) i ≤ ranks (filled (entry_in v f w p q) hole e) hole
    own-above {b} told fails = rw (own-rank, there-rank) at (ltb-false (rank own) (rank there) (sym told ∙ not-true b fails))

-- ---- the start and the end

-- a hole over a heap
pub sinking-hole : (v f lo : ℕ) {n : ℕ} (w : List ℕ) (p q : List Float) (e : Entry) → Heap (lo + 1) (ranks (entry_in v f w p q)) n →
    Sinking lo (ranks (filled (entry_in v f w p q) lo e)) n lo
sinking-hole v f lo w p q e heap =
    sinking-start (heap-agree (λ k low inside. ap entry_rank (filled-other (entry_in v f w p q) lo e k (omega arith))) heap)

-- a hole after the last one
pub rising-hole : (v f n : ℕ) (w : List ℕ) (p q : List Float) (e : Entry) → Heap 0 (ranks (entry_in v f w p q)) n →
    Rising (ranks (filled (entry_in v f w p q) n e)) (n + 1) n
rising-hole v f n w p q e heap =
    rising-start (heap-agree (λ k low inside. ap entry_rank (filled-other (entry_in v f w p q) n e k (omega arith))) heap)

-- where the hole has come to rest
pub sunk : {v f n lo : ℕ} {w₀ : List ℕ} {p₀ q₀ : List Float} {hole₀ : ℕ} {e : Entry} {w : List ℕ} {p q : List Float} {hole : ℕ} →
    Moving v f n w₀ p₀ q₀ hole₀ e w p q hole → Heap lo (ranks (filled (entry_in v f w p q) hole e)) n → Sunk v f n lo w₀ p₀ q₀ hole₀ e w p q hole
sunk moving heap = record { only = moving.only; inside = moving.inside; shuffled = moving.shuffled; ordered = heap }

-- and the entry is written there
pub sifted : {v f n lo : ℕ} {w : List ℕ} {p q : List Float} {hole : ℕ} {e : Entry} {w₁ : List ℕ} {p₁ q₁ : List Float} {hole₁ : ℕ} {w' : List ℕ} {p' q' : List Float} →
    Sunk v f n lo w p q hole e w₁ p₁ q₁ hole₁ → EntrySet v f w₁ p₁ q₁ hole₁ e w' p' q' → Sifted v f n lo w p q hole e w' p' q'
sifted sunk written = record {
  only = only_then sunk.only written.only;
  shuffled = shuffled-then sunk.shuffled (shuffled-same (λ k l. set-filled written k));
  ordered = heap-agree (λ k low inside. ap entry_rank (set-filled written k)) sunk.ordered;
}

-- ---- as lists

-- the entries of a queue, weighed by place
pub entries-sum : (v f : ℕ) (w : List ℕ) (p q : List Float) (n : ℕ) (g : Entry → ℕ) → sum g (entries_in v f w p q n) ≡ sum (λ i. g (entry_in v f w p q i)) (below n)
unfolding entries_in
entries-sum v f w p q n g = sum-map g (entry_in v f w p q) (below n)

pub shuffled-bag : (v f : ℕ) {n : ℕ} (w : List ℕ) (p q : List Float) (w' : List ℕ) (p' q' : List Float) → Shuffled n (entry_in v f w p q) (entry_in v f w' p' q') →
    SameBag (entries_in v f w' p' q' n) (entries_in v f w p q n)
shuffled-bag v f {n} w p q w' p' q' shuffled = record {
  sums = λ g. entries-sum v f w' p' q' n g ∙ shuffled.sums g ∙ sym (entries-sum v f w p q n g);
}
