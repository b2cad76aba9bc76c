-- What the queue's functions leave in the memory.
use Rattle.std.specs.Prelude.{ℕ, ◌+◌, ◌*◌, ◌-◌, ◌≤◌, ◌<◌, ◌≡◌, List, [], ◌∷◌, ◌++◌, true, not, Float, Option, Some, None}
use Rattle.walk.specs.declared.Pair.{Pair}
use Rattle.geometry.specs.declared.Point.{Point}
use Rattle.lists.specs.Lists.{sum, those, every, SameBag}
use Rattle.walk.specs.Pairs.{pair_of}
use Rattle.lists.specs.Frames.{But, FloatsBut}
use Rattle.memory.specs.declared.entries.Entry.{Entry}
use Rattle.memory.specs.Entries.{stamp, entry_in, EntriesOnly}
use Rattle.queue.specs.State.{open_in}
use Rattle.queue.specs.Stored.{stamps_of, entries_in, is_old, entry_rank, LeastCurrent, Requeued}
use Rattle.queue.specs.Clauses.Queued.{Queue}
use Rattle.memory.specs.Layout.{costs_to, entries_from, folds_from, places_to, stamps_from}

-- an entry was among the first n
abbrev pub Was : (v f : ℕ) (w : List ℕ) (p q : List Float) (n : ℕ) (e : Entry) → Type 0
Was v f w p q n e = (j : ℕ) × (j < n) × (e ≡ entry_in v f w p q j)

-- the entries that are left were there
abbrev pub Were : (v f : ℕ) (w : List ℕ) (p q : List Float) (n : ℕ) (w' : List ℕ) (p' q' : List Float) (n' : ℕ) → Type 0
Were v f w p q n w' p' q' n' = (i : ℕ) → i < n' → Was v f w p q n (entry_in v f w' p' q' i)

-- the queue at the start: every stamp is 0
pub record Emptied (v f : ℕ) (w : List ℕ) (p q : List Float) (w' : List ℕ) : Type 0 where
  pub but : But (stamps_from v f) (entries_from v f) w w'
  pub stamps : (x : ℕ) → x < v → stamp v f w' x ≡ 0
  pub queue : Queue v f w' p q 0

-- Some entries are queued no more, and the others still: a queue of n' is left.
pub record Fewer (v f : ℕ) (w : List ℕ) (p q : List Float) (n : ℕ) (gone : List Entry) (w' : List ℕ) (p' q' : List Float) (n' : ℕ) : Type 0 where
  pub only : EntriesOnly v f w p q w' p' q'
  pub queue : Queue v f w' p' q' n'
  pub bag : SameBag (entries_in v f w p q n) (gone ++ entries_in v f w' p' q' n')
  pub were : Were v f w p q n w' p' q' n'

-- The entry on top is taken off. No entry comes before it.
pub record Popped (v f : ℕ) (w : List ℕ) (p q : List Float) (n : ℕ) (w' : List ℕ) (p' q' : List Float) (top : Entry) : Type 0 where
  pub fewer : Fewer v f w p q n (top ∷ []) w' p' q' (n - 1)
  pub was : Was v f w p q n top
  pub least : (i : ℕ) → i < n - 1 → entry_rank top ≤ entry_rank (entry_in v f w' p' q' i)

-- The first current entry is taken off, others that go with it are old, and left entries stay: no current entry comes before it.
pub record TakenOff (v f : ℕ) (w : List ℕ) (p q : List Float) (n : ℕ) (w' : List ℕ) (p' q' : List Float) (top : Entry) (left : ℕ) : Type 0 where
  pub passed : List Entry
  pub fewer : Fewer v f w p q n (top ∷ passed) w' p' q' left
  pub was : Was v f w p q n top
  pub old : every (is_old (stamps_of v f w)) passed ≡ true
  pub least : LeastCurrent (stamps_of v f w) (entries_in v f w p q n) top

-- No entry was current, and none is left.
pub record NoneLeft (v f : ℕ) (w : List ℕ) (p q : List Float) (n : ℕ) (w' : List ℕ) (p' q' : List Float) : Type 0 where
  pub only : EntriesOnly v f w p q w' p' q'
  pub queue : Queue v f w' p' q' 0
  pub old : every (is_old (stamps_of v f w)) (entries_in v f w p q n) ≡ true

-- entries are taken off up to the first current one
abbrev pub TookCurrent : (v f : ℕ) (w : List ℕ) (p q : List Float) (n : ℕ) (w' : List ℕ) (p' q' : List Float) (r : Option (Entry × ℕ)) → Type 0
TookCurrent v f w p q n w' p' q' (Some (top, left)) = TakenOff v f w p q n w' p' q' top left
TookCurrent v f w p q n w' p' q' None = NoneLeft v f w p q n w' p' q'

-- the current entries come first, n' of them, in their order
pub record CurrentFirst (v f : ℕ) (w : List ℕ) (p q : List Float) (n : ℕ) (w' : List ℕ) (p' q' : List Float) (n' : ℕ) : Type 0 where
  pub only : EntriesOnly v f w p q w' p' q'
  pub few : n' ≤ n
  pub current : entries_in v f w' p' q' n' ≡ those (λ e. not (is_old (stamps_of v f w) e)) (entries_in v f w p q n)
  pub were : Were v f w p q n w' p' q' n'

-- the old entries are thrown out, and just the current ones stay
pub record ThrownOut (v f : ℕ) (w : List ℕ) (p q : List Float) (n : ℕ) (w' : List ℕ) (p' q' : List Float) (n' : ℕ) : Type 0 where
  pub only : EntriesOnly v f w p q w' p' q'
  pub queue : Queue v f w' p' q' n'
  pub current : SameBag (entries_in v f w' p' q' n') (those (λ e. not (is_old (stamps_of v f w) e)) (entries_in v f w p q n))
  pub were : Were v f w p q n w' p' q' n'

-- there is room for an entry: old ones may be thrown out, and the others stay
pub record RoomMade (v f : ℕ) (w : List ℕ) (p q : List Float) (n : ℕ) (w' : List ℕ) (p' q' : List Float) (n' : ℕ) : Type 0 where
  pub thrown : List Entry
  pub fewer : Fewer v f w p q n thrown w' p' q' n'
  pub old : every (is_old (stamps_of v f w)) thrown ≡ true
  pub free : n' < 3 * f

-- Entries for a list of pairs are put in, and the open pairs are more by these: no cell but the queue's own and those of the lists around a point changes.
pub record Enqueued (v f : ℕ) (w : List ℕ) (p q : List Float) (n : ℕ) (more : List Pair) (w' : List ℕ) (p' q' : List Float) (n' : ℕ) : Type 0 where
  pub but : But (entries_from v f) (folds_from v f) w w'
  pub points_but : FloatsBut (3 * v) (places_to v f) p p'
  pub quadrics_but : FloatsBut (10 * v) (costs_to v f) q q'
  pub queue : Queue v f w' p' q' n'
  pub sums : (g : Pair → ℕ) → sum g (open_in v f w' n') ≡ sum g (open_in v f w n) + sum g more

-- the entry of a pair, with the present stamps
abbrev pub entry_of : (v f : ℕ) (w : List ℕ) (keep remove : ℕ) (cost : Float) (place : Point) → Entry
entry_of v f w keep remove cost place =
    record { pair = pair_of keep remove; cost = cost; place = place; keepstamp = stamp v f w keep; removestamp = stamp v f w remove }

-- one entry is put in, with the present stamps, and the lists around a point stay
pub record Pushed (v f : ℕ) (w : List ℕ) (p q : List Float) (n keep remove : ℕ) (cost : Float) (place : Point) (w' : List ℕ) (p' q' : List Float) (n' : ℕ) : Type 0 where
  pub only : EntriesOnly v f w p q w' p' q'
  pub queue : Queue v f w' p' q' n'
  pub sums : (g : Pair → ℕ) → sum g (open_in v f w' n') ≡ sum g (open_in v f w n) + g (pair_of keep remove)
  pub requeued : Requeued (stamps_of v f w) (entries_in v f w p q n) (entry_of v f w keep remove cost place ∷ []) (entries_in v f w' p' q' n')
