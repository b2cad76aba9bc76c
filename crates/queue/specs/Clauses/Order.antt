-- Entries that are moved: what the functions on the order ask, and what they leave. While an entry moves, the place that is to be its own is a hole: what
-- lies there is counted as if it were that entry.
use Rattle.std.specs.Prelude.{ℕ, ◌*◌, ◌≤◌, ◌<◌, ◌≡◌, List, cond, eqb, Float}
use Rattle.lists.specs.Lists.{sum, below}
use Rattle.memory.specs.declared.entries.Entry.{Entry}
use Rattle.memory.specs.Entries.{entry_in, EntryRoom, EntriesOnly}
use Rattle.queue.specs.Stored.{entry_rank}
use Rattle.queue.specs.Clauses.Ranks.{Heap}

-- what stands in each place, with an entry in the hole
abbrev pub filled : (ℕ → Entry) → ℕ → Entry → ℕ → Entry
filled es hole e k = cond (eqb k hole) e (es k)

-- the ranks of what stands in each place
abbrev pub ranks : (ℕ → Entry) → ℕ → ℕ
ranks es k = entry_rank (es k)

-- the first n are the same entries in another order
pub record Shuffled (n : ℕ) (es es' : ℕ → Entry) : Type 0 where
  pub sums : (g : Entry → ℕ) → sum (λ i. g (es' i)) (below n) ≡ sum (λ i. g (es i)) (below n)
  pub from : (i : ℕ) → i < n → (j : ℕ) × (j < n) × (es' i ≡ es j)

-- there is room for the entries, of which n are looked at, and for the hole
pub record Holed (v f : ℕ) (w : List ℕ) (p q : List Float) (n hole : ℕ) : Type 0 where
  pub enough : EntryRoom v f w p q
  pub few : n ≤ 3 * f
  pub inside : hole < 3 * f

-- the hole is where the entry may stand: those over it and under it are in order
pub record Sunk (v f n : ℕ) (lo : ℕ) (w : List ℕ) (p q : List Float) (hole : ℕ) (e : Entry) (w' : List ℕ) (p' q' : List Float) (hole' : ℕ) : Type 0 where
  pub only : EntriesOnly v f w p q w' p' q'
  pub inside : hole' < 3 * f
  pub shuffled : Shuffled n (filled (entry_in v f w p q) hole e) (filled (entry_in v f w' p' q') hole' e)
  pub ordered : Heap lo (ranks (filled (entry_in v f w' p' q') hole' e)) n

-- the entry stands in its place, and the first n are in order from place lo on
pub record Sifted (v f n : ℕ) (lo : ℕ) (w : List ℕ) (p q : List Float) (hole : ℕ) (e : Entry) (w' : List ℕ) (p' q' : List Float) : Type 0 where
  pub only : EntriesOnly v f w p q w' p' q'
  pub shuffled : Shuffled n (filled (entry_in v f w p q) hole e) (entry_in v f w' p' q')
  pub ordered : Heap lo (ranks (entry_in v f w' p' q')) n

-- the first n are in another order, which is a heap
pub record Settled (v f n : ℕ) (w : List ℕ) (p q : List Float) (w' : List ℕ) (p' q' : List Float) : Type 0 where
  pub only : EntriesOnly v f w p q w' p' q'
  pub shuffled : Shuffled n (entry_in v f w p q) (entry_in v f w' p' q')
  pub ordered : Heap 0 (ranks (entry_in v f w' p' q')) n
