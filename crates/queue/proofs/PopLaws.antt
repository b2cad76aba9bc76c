-- The entry on top is taken off: the last one is let down from there.
-- Assumes nothing.
use Prim.Native.Nat.{ℕ, ◌+◌, ◌-◌, ◌<◌}
use native.Mathlib.Numerals.{add-one}
use native.Mathlib.Omega.{arith}
use mathlib.Core.Path.{◌≡◌, sym, ap, ◌∙◌}
use mathlib.Core.List.{List}
use lib.Ieee.{Float}
use Rattle.lists.specs.Lists.{sum, below}
use Rattle.lists.proofs.BelowLaws.{sum_below, sum-changed}
use Rattle.memory.specs.declared.entries.Entry.{Entry}
use Rattle.memory.specs.Entries.{entry_in}
use Rattle.memory.proofs.EntryLaws.{room-only}
use Rattle.queue.specs.Stored.{entries_in, entry_rank}
use Rattle.queue.specs.Clauses.Ranks.{Heap}
use Rattle.queue.specs.Clauses.Order.{filled, ranks, Holed, Sifted}
use Rattle.queue.specs.Clauses.Queued.{Queue}
use Rattle.queue.specs.Clauses.Changes.{Was, Popped}
use Rattle.queue.proofs.HeapLaws.{by-same, least-at-root}
use Rattle.queue.proofs.HoleLaws.{filled-here, filled-other, entries-sum}

module _ {v f : ℕ} {w : List ℕ} {p q : List Float} {n : ℕ} (queue : Queue v f w p q n) (some : 0 < n) where
  -- there is a hole on top, over a heap
  pub top-holed : Holed v f w p q (n - 1) 0
  top-holed = let few = queue.few in record { enough = queue.enough; few = omega arith; inside = omega arith }

  pub top-heap : Heap 1 (ranks (entry_in v f w p q)) (n - 1)
  top-heap k positive inside low = queue.ordered k positive (omega arith) (omega arith)

  module _ {top last : Entry} {w' : List ℕ} {p' q' : List Float} (top-is : top ≡ entry_in v f w p q 0) (last-is : last ≡ entry_in v f w p q (n - 1))
      (sifted : Sifted v f (n - 1) 0 w p q 0 last w' p' q') where
    -- each that is left was there
    left-was : (i : ℕ) → i < n - 1 → Was v f w p q n (entry_in v f w' p' q' i)
    left-was i l =
        let es = entry_in v f w p q in
        let (j, m, same) = sifted.shuffled.from i l in
        by-same j 0
        (λ d. (n - 1, omega arith, same ∙ ap (filled es 0 last) d ∙ filled-here es 0 last ∙ last-is))
        (λ d. (j, omega arith, same ∙ filled-other es 0 last j d))

    -- with the one on top they are all
    all-weigh : (g : Entry → ℕ) → sum g (entries_in v f w p q n) ≡ g top + sum g (entries_in v f w' p' q' (n - 1))
    unfolding sum below
    all-weigh g =
        let es = entry_in v f w p q in
        let more : n ≡ (n - 1) + 1 = omega arith in
        let up_to = entries-sum v f w p q n g
        ∙ ap (λ (k : ℕ). sum (λ i. g (es i)) (below k)) (more ∙ add-one (n - 1)) ∙ sum_below (λ i. g (es i)) (n - 1) in
        let rest = entries-sum v f w' p' q' (n - 1) g ∙ sifted.shuffled.sums g in
        by-same (n - 1) 0
        (λ d.
        omega (
          arith,
          up_to,
          rest,
          ap g top-is,
          ap (λ (k : ℕ). g (es k)) d,
          ap (λ (k : ℕ). sum (λ i. g (es i)) (below k)) d ∙ sym (ap (λ (k : ℕ). sum (λ i. g (filled es 0 last i)) (below k)) d),
        ))
        (λ d.
        omega (
          arith,
          up_to,
          rest,
          ap g top-is,
          ap g last-is,
          ap g (filled-here es 0 last),
          sum-changed (λ i. g (es i)) (λ i. g (filled es 0 last i)) (n - 1) 0 (omega arith) (λ i l apart. ap g (filled-other es 0 last i apart)),
        ))

    pub popping : Popped v f w p q n w' p' q' top
    unfolding sum
    popping =
        let few = queue.few in
        record {
          fewer = record {
            only = sifted.only;
            queue = record { enough = room-only sifted.only queue.enough; few = omega arith; ordered = sifted.ordered };
            bag = record { sums = all-weigh };
            were = left-was;
          };
          was = (0, some, top-is);
          least = λ i l.
              let (j, m, same) = left-was i l in
              omega (arith, ap entry_rank top-is, ap entry_rank same, least-at-root {r = ranks (entry_in v f w p q)} queue.ordered j m);
        }
