-- Pairs in the lent memory: the open pairs of the plain walk, the entries of the queue, and the folds that are written down.
--
-- An entry of the queue has a pair, the cost and the place that the pair had when it was made, and the stamps that its two points had then. A point's stamp
-- grows with every fold that touches it. The n entries of a queue lie in the first n places, below 3F, in the order of a heap, and are moved whole.
use Rattle.std.specs.Prelude.{ℕ, ◌+◌, ◌*◌, ◌≤◌, ◌≡◌, ◌≢◌, List, [], ◌∷◌, map, length, get_or, set, Float}
use Rattle.std.specs.Float.{nan}
use Rattle.lists.specs.Lists.{below}
use Rattle.lists.specs.Frames.{But, FloatsBut}
use Rattle.geometry.specs.declared.Point.{Point}
use Rattle.walk.specs.declared.Pair.{Pair}
use Rattle.walk.specs.Pairs.{pair_of}
use Rattle.meaning.specs.Input.{point_at}
use Rattle.memory.specs.declared.entries.Entry.{Entry}
use Rattle.memory.specs.Memory.{Room}
use Rattle.memory.specs.Layout.{costs_from, costs_to, entries_from, folds_from, keeps_from, near_from, places_from, places_to, removes_from, stamps_from}

-- the pair in a place of the plain walk's list
abbrev pub pair_at : ℕ → ℕ → List ℕ → ℕ → Pair
pair_at v f w i = pair_of (get_or w (keeps_from v f + i) 0) (get_or w (removes_from v f + i) 0)

-- a point's present stamp
abbrev pub stamp : ℕ → ℕ → List ℕ → ℕ → ℕ
stamp v f w x = get_or w (stamps_from v f + x) 0

-- ---- the entry in a place

-- its pair, and the stamps that its points had
abbrev pub entry_pair : ℕ → ℕ → List ℕ → ℕ → Pair
entry_pair v f w i = pair_of (get_or w (entries_from v f + 4 * i) 0) (get_or w (entries_from v f + 4 * i + 1) 0)

abbrev pub keep_stamp : ℕ → ℕ → List ℕ → ℕ → ℕ
keep_stamp v f w i = get_or w (entries_from v f + 4 * i + 2) 0

abbrev pub remove_stamp : ℕ → ℕ → List ℕ → ℕ → ℕ
remove_stamp v f w i = get_or w (entries_from v f + 4 * i + 3) 0

-- its cost
abbrev pub cost_in : ℕ → List Float → ℕ → Float
cost_in v q i = get_or q (costs_from v + i) nan

-- its place in the scan: it stands where that of a point V + i would stand
abbrev pub entry_place : ℕ → List Float → ℕ → Point
entry_place v p i = point_at p (v + i)

-- all that is stored of it
abbrev pub entry_in : ℕ → ℕ → List ℕ → List Float → List Float → ℕ → Entry
entry_in v f w p q i =
    record {
      pair = entry_pair v f w i;
      cost = cost_in v q i;
      place = entry_place v p i;
      keepstamp = keep_stamp v f w i;
      removestamp = remove_stamp v f w i;
    }

-- its four numbers, in the order in which they stand
abbrev pub entry_words : Entry → List ℕ
entry_words e = e.pair.keep ∷ e.pair.remove ∷ e.keepstamp ∷ e.removestamp ∷ []

-- ---- what is asked, and what changes

-- there is room for 3F entries
pub record EntryRoom (v f : ℕ) (w : List ℕ) (p q : List Float) : Type 0 where
  pub room : Room v f w
  pub places_long : places_to v f ≤ length p
  pub costs_long : costs_to v f ≤ length q

-- no cell but those of entries changes
pub record EntriesOnly (v f : ℕ) (w : List ℕ) (p q : List Float) (w' : List ℕ) (p' q' : List Float) : Type 0 where
  pub but : But (entries_from v f) (near_from v f) w w'
  pub points_but : FloatsBut (places_from v) (places_to v f) p p'
  pub quadrics_but : FloatsBut (costs_from v) (costs_to v f) q q'

-- an entry is written into a place, and every other one stays
pub record EntrySet (v f : ℕ) (w : List ℕ) (p q : List Float) (i : ℕ) (e : Entry) (w' : List ℕ) (p' q' : List Float) : Type 0 where
  pub only : EntriesOnly v f w p q w' p' q'
  pub here : entry_in v f w' p' q' i ≡ e
  pub other : (k : ℕ) → k ≢ i → entry_in v f w' p' q' k ≡ entry_in v f w p q k

-- ---- the folds

-- the first n folds that a walk has written down: keep and remove of each
unfoldable pub folds_in : ℕ → ℕ → List ℕ → ℕ → List Pair
unfolding below
folds_in v f w n = map (λ i. pair_of (get_or w (folds_from v f + 2 * i) 0) (get_or w (folds_from v f + 2 * i + 1) 0)) (below n)

-- the memory with a fold written down after n others
abbrev pub with_fold : ℕ → ℕ → ℕ → ℕ → ℕ → List ℕ → List ℕ
with_fold v f n keep remove w = set (set w (folds_from v f + 2 * n) keep) (folds_from v f + 2 * n + 1) remove
