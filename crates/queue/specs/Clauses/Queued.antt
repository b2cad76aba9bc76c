-- What is true of the queue between its functions.
use Rattle.std.specs.Prelude.{ℕ, ◌*◌, ◌≤◌, ◌<◌, ◌≡◌, List, Bool, true, ◌&&◌, eqb, Float}
use Rattle.placement.specs.Pairs.{pair_place, pair_cost}
use Rattle.memory.specs.declared.entries.Entry.{Entry}
use Rattle.memory.specs.Points.{vertex_at}
use Rattle.memory.specs.Entries.{stamp, entry_in, EntryRoom}
use Rattle.queue.specs.Clauses.Ranks.{Heap}
use Rattle.queue.specs.Clauses.Order.{ranks}

-- the memory has its room, and the first n entries make a heap
pub record Queue (v f : ℕ) (w : List ℕ) (p q : List Float) (n : ℕ) : Type 0 where
  pub enough : EntryRoom v f w p q
  pub few : n ≤ 3 * f
  pub ordered : Heap 0 (ranks (entry_in v f w p q)) n

-- an entry's pair is of points below v
abbrev pub Named : (v : ℕ) (e : Entry) → Type 0
Named v e = (e.pair.keep < v) × (e.pair.remove < v)

-- so is that of each of the first n
abbrev pub QueueNamed : (v f : ℕ) (w : List ℕ) (p q : List Float) (n : ℕ) → Type 0
QueueNamed v f w p q n = (i : ℕ) → i < n → Named v (entry_in v f w p q i)

-- whether an entry is current, by the stamps in memory
abbrev pub is_present : (v f : ℕ) (w : List ℕ) (e : Entry) → Bool
is_present v f w e = eqb e.keepstamp (stamp v f w e.pair.keep) && eqb e.removestamp (stamp v f w e.pair.remove)

-- What an entry knows: its pair is of points below v, it has no stamp above the present one, so that an old entry never becomes current again, and a
-- current one has the cost and the place that its pair has in the present mesh.
pub record EntryKept (v f : ℕ) (w : List ℕ) (p q : List Float) (bound : Float) (e : Entry) : Type 0 where
  pub named : Named v e
  pub older : (e.keepstamp ≤ stamp v f w e.pair.keep) × (e.removestamp ≤ stamp v f w e.pair.remove)
  pub cost : is_present v f w e ≡ true → e.cost ≡ pair_cost bound (vertex_at v f w p q e.pair.keep) (vertex_at v f w p q e.pair.remove)
  pub place : is_present v f w e ≡ true → e.place ≡ pair_place bound (vertex_at v f w p q e.pair.keep) (vertex_at v f w p q e.pair.remove)

-- what the first n entries know
abbrev pub Kept : (v f : ℕ) (w : List ℕ) (p q : List Float) (n : ℕ) (bound : Float) → Type 0
Kept v f w p q n bound = (i : ℕ) → i < n → EntryKept v f w p q bound (entry_in v f w p q i)
