-- The entries of the queue as document 01 has them: each with its pair, stored cost, place and stamps.
use Rattle.std.specs.Prelude.{ℕ, ◌≡◌, List, ◌++◌, map, Bool, true, false, not, ◌&&◌, ◌||◌, eqb, leb, get_or, Float}
use Rattle.lists.specs.Lists.{every, below, stretch, SameBag}
use Rattle.memory.specs.Layout.{stamps_from}
use Rattle.memory.specs.declared.entries.Entry.{Entry}
use Rattle.memory.specs.Entries.{entry_in}
use Rattle.openpairs.specs.declared.pairs.Ranked.{Ranked}
use Rattle.openpairs.specs.Clauses.Ranks.{rank}

-- ---- in memory

-- the present stamps of the points
unfoldable pub stamps_of : ℕ → ℕ → List ℕ → List ℕ
stamps_of v f w = stretch w (stamps_from v f) v

-- the n entries that are queued
unfoldable pub entries_in : ℕ → ℕ → List ℕ → List Float → List Float → ℕ → List Entry
entries_in v f w p q n = map (entry_in v f w p q) (below n)

-- ---- what an entry is, by the present stamps

-- it is old where a stamp that it has is no more the present one of its point, and else current
abbrev pub is_old : List ℕ → Entry → Bool
is_old stamps e =
    not (eqb e.keepstamp (get_or stamps e.pair.keep 0) && eqb e.removestamp (get_or stamps e.pair.remove 0))

-- what entries are compared by: stored cost, keep, remove
abbrev pub ranked_of : Entry → Ranked
ranked_of e = record { at = 0; cost = e.cost; keep = e.pair.keep; remove = e.pair.remove }

unfoldable pub entry_rank : Entry → ℕ
entry_rank e = rank (ranked_of e)

-- an entry is current, and no current one of a list comes before it
pub record LeastCurrent (stamps : List ℕ) (entries : List Entry) (top : Entry) : Type 0 where
  pub current : is_old stamps top ≡ false
  pub least : every (λ e. is_old stamps e || leb (entry_rank top) (entry_rank e)) entries ≡ true

-- ---- what becomes of the entries

-- Old ones may be thrown out, the others stay as they are, with all that is stored of them, and new ones are put in.
pub record Requeued (stamps : List ℕ) (before new after : List Entry) : Type 0 where
  pub thrown : List Entry
  pub stayed : List Entry
  pub old : every (is_old stamps) thrown ≡ true
  pub were : SameBag before (thrown ++ stayed)
  pub are : SameBag after (stayed ++ new)
