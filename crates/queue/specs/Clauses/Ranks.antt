-- The order of the queue: a heap of four children to a place. The places under place k are 4k + 1 to 4k + 4.
use Rattle.std.specs.Prelude.{ℕ, ◌-◌, ◌/◌, ◌≤◌, ◌<◌, ◌≡◌, cond, List, ltb, Float}
use Rattle.openpairs.specs.declared.pairs.Ranked.{Ranked}
use Rattle.memory.specs.Entries.{entry_pair, cost_in}
use Rattle.openpairs.specs.Clauses.Ranks.{rank}

-- what the entry in a place is compared by: its stored cost, then keep, then remove
abbrev pub ranked_in : ℕ → ℕ → List ℕ → List Float → ℕ → Ranked
ranked_in v f w q i = record { at = i; cost = cost_in v q i; keep = (entry_pair v f w i).keep; remove = (entry_pair v f w i).remove }

unfoldable pub rank_in : ℕ → ℕ → List ℕ → List Float → ℕ → ℕ
rank_in v f w q i = rank (ranked_in v f w q i)

-- ---- by the ranks of their places

-- the place over another
abbrev pub over : ℕ → ℕ
over k = (k - 1) / 4

-- from place lo on, none of the first n is below the one over it
abbrev pub Heap : ℕ → (ℕ → ℕ) → ℕ → Type 0
Heap lo r n = (k : ℕ) → 0 < k → k < n → lo ≤ over k → r (over k) ≤ r k

-- of two places the one of lower rank, and the first of them where the second is not below n
unfoldable pub lesser_of : (ℕ → ℕ) → ℕ → ℕ → ℕ → ℕ
lesser_of r n i j = cond (ltb j n) (cond (ltb (r j) (r i)) j i) i

-- of the places under one that are below n, the one of lowest rank
pub record LowestUnder (r : ℕ → ℕ) (n at first : ℕ) : Type 0 where
  pub within : first < n
  pub positive : 0 < first
  pub under : over first ≡ at
  pub lowest : (k : ℕ) → 0 < k → k < n → over k ≡ at → r first ≤ r k
