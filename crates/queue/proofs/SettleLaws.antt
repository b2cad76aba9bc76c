-- A heap is made of entries in any order: from the last place that has some under it to the first, each is let down.
-- Assumes nothing.
use Prim.Native.Nat.{ℕ, ◌+◌, ◌*◌, ◌≤◌}
use mathlib.Core.Path.{◌≡◌, refl, ap, subst, ◌∙◌}
use mathlib.Core.List.{List}
use lib.Ieee.{Float}
use Rattle.memory.specs.declared.entries.Entry.{Entry}
use Rattle.memory.specs.Entries.{entry_in, EntryRoom, EntriesOnly}
use Rattle.memory.proofs.EntryLaws.{only-refl, only_then, room-only}
use Rattle.queue.specs.Clauses.Ranks.{Heap}
use Rattle.queue.specs.Clauses.Order.{filled, ranks, Shuffled, Sifted, Settled}
use Rattle.queue.proofs.HeapLaws.{heap-quarters}
use Rattle.queue.proofs.HoleLaws.{filled-same, shuffled-same, shuffled-then}

-- the first n are in another order, and make a heap from place lo on
pub record Settling (v f n : ℕ) (w₀ : List ℕ) (p₀ q₀ : List Float) (w : List ℕ) (p q : List Float) (lo : ℕ) : Type 0 where
  pub only : EntriesOnly v f w₀ p₀ q₀ w p q
  pub enough : EntryRoom v f w p q
  pub few : n ≤ 3 * f
  pub shuffled : Shuffled n (entry_in v f w₀ p₀ q₀) (entry_in v f w p q)
  pub ordered : Heap lo (ranks (entry_in v f w p q)) n

pub settling-start : {v f n : ℕ} {w : List ℕ} {p q : List Float} {lo : ℕ} → EntryRoom v f w p q → n ≤ 3 * f → n ≤ 4 * lo + 1 → Settling v f n w p q w p q lo
settling-start {v} {f} {n} {w} {p} {q} enough few high = record {
  only = only-refl v f w p q;
  enough = enough;
  few = few;
  shuffled = shuffled-same (λ k l. refl);
  ordered = heap-quarters (ranks (entry_in v f w p q)) high;
}

-- one more is let down, which stood where it was let down from
pub settling-turn : {v f n : ℕ} {w₀ : List ℕ} {p₀ q₀ : List Float} {w : List ℕ} {p q : List Float} {lo hi : ℕ} {e : Entry} {w' : List ℕ} {p' q' : List Float} →
    Settling v f n w₀ p₀ q₀ w p q hi → e ≡ entry_in v f w p q lo → Sifted v f n lo w p q lo e w' p' q' → Settling v f n w₀ p₀ q₀ w' p' q' lo
settling-turn {v} {f} {w = w} {p} {q} {lo} {e = e} before stood sifted = record {
  only = only_then before.only sifted.only;
  enough = room-only sifted.only before.enough;
  few = before.few;
  shuffled = shuffled-then before.shuffled (shuffled-then (shuffled-same (λ k l. ap (λ (x : Entry). filled (entry_in v f w p q) lo x k) stood ∙ filled-same (entry_in v f w p q) lo k)) sifted.shuffled);
  ordered = sifted.ordered;
}

pub settling-end : {v f n : ℕ} {w₀ : List ℕ} {p₀ q₀ : List Float} {w : List ℕ} {p q : List Float} {lo : ℕ} → lo ≡ 0 → Settling v f n w₀ p₀ q₀ w p q lo → Settled v f n w₀ p₀ q₀ w p q
settling-end {v} {f} {n} {w = w} {p} {q} first settling = record {
  only = settling.only;
  shuffled = settling.shuffled;
  ordered = subst (λ (lo : ℕ). Heap lo (ranks (entry_in v f w p q)) n) first settling.ordered;
}
