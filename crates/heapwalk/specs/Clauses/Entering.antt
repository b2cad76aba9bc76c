-- Pairs are opened into the queue: what that asks, and what it leaves.
use Rattle.std.specs.Prelude.{ℕ, ◌*◌, ◌<◌, ◌≡◌, List, map, Float, Option}
use Rattle.walk.specs.declared.Pair.{Pair}
use Rattle.lists.specs.Lists.{sum, SameBag}
use Rattle.lists.specs.Frames.{But, FloatsBut}
use Rattle.mesh.specs.Clauses.Chains.{Tidy}
use Rattle.memory.specs.Entries.{stamp}
use Rattle.memory.specs.Points.{mesh_of}
use Rattle.queue.specs.State.{open_in}
use Rattle.memory.specs.declared.entries.Entry.{Entry}
use Rattle.queue.specs.Stored.{stamps_of, entries_in, Requeued}
use Rattle.heapwalk.specs.Entries.{entry_for}
use Rattle.queue.specs.Clauses.Queued.{Queue, Kept}
use Rattle.queue.specs.Clauses.Changes.{Enqueued}
use Rattle.memory.specs.Layout.{costs_to, folds_from, places_to, stamps_from}

-- the memory holds a mesh and a queue of n entries
pub record Open (v f : ℕ) (w : List ℕ) (p q : List Float) (n : ℕ) (bound : Float) : Type 0 where
  pub tidy : Tidy v f w
  pub queue : Queue v f w p q n
  pub kept : Kept v f w p q n bound

-- the entries that the pairs of a list get in the mesh in memory, with the present stamps
abbrev pub entries_for : (v f : ℕ) (w : List ℕ) (p q : List Float) (limit : Option Float) (bound : Float) → List Pair → List Entry
entries_for v f w p q limit bound = map (entry_for limit bound (mesh_of v f w p q) (stamps_of v f w))

-- entries for a list of pairs are put in, and the memory holds a mesh and a queue as before
pub record Entered (v f : ℕ) (w : List ℕ) (p q : List Float) (n : ℕ) (limit : Option Float) (bound : Float) (more : List Pair)
    (w' : List ℕ) (p' q' : List Float) (n' : ℕ) : Type 0 where
  pub enqueued : Enqueued v f w p q n more w' p' q' n'
  pub requeued : Requeued (stamps_of v f w) (entries_in v f w p q n) (entries_for v f w p q limit bound more) (entries_in v f w' p' q' n')
  pub «open» : Open v f w' p' q' n' bound

-- the queue at the start: it holds an entry for each pair of a list and no other, and no stamp has grown
pub record Started (v f : ℕ) (w : List ℕ) (p q : List Float) (limit : Option Float) (bound : Float) (more : List Pair) (w' : List ℕ) (p' q' : List Float) (n' : ℕ) : Type 0 where
  pub but : But (stamps_from v f) (folds_from v f) w w'
  pub points_but : FloatsBut (3 * v) (places_to v f) p p'
  pub quadrics_but : FloatsBut (10 * v) (costs_to v f) q q'
  pub «open» : Open v f w' p' q' n' bound
  pub stamps : (x : ℕ) → x < v → stamp v f w' x ≡ 0
  pub entries : SameBag (entries_in v f w' p' q' n') (entries_for v f w' p' q' limit bound more)
  pub sums : (g : Pair → ℕ) → sum g (open_in v f w' n') ≡ sum g more
