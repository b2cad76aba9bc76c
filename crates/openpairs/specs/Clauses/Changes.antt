-- What the functions on open pairs leave in the memory.
use Rattle.std.specs.Prelude.{ℕ, ◌+◌, ◌≤◌, ◌<◌, ◌≡◌, List, Float, Option}
use Rattle.placement.specs.Pairs.{pair_place}
use Rattle.walk.specs.declared.Pair.{Pair}
use Rattle.lists.specs.Lists.{sum, those}
use Rattle.walk.specs.Pairs.{pair_of, apart, order}
use Rattle.lists.specs.Frames.{But}
use Rattle.memory.specs.Points.{vertex_at, mesh_of}
use Rattle.meaning.specs.Arithmetic.{rules_of}
use Rattle.memory.specs.Entries.{pair_at}
use Rattle.openpairs.specs.State.{open_pairs}
use Rattle.openpairs.specs.declared.pairs.Least.{Least}
use Rattle.memory.specs.Layout.{keeps_from, near_from, folds_from}

-- every open pair names two points below v
abbrev pub Named : (v f : ℕ) (w : List ℕ) (n : ℕ) → Type 0
Named v f w n = (i : ℕ) → i < n → ((pair_at v f w i).keep < v) × ((pair_at v f w i).remove < v)

-- what is found at the least open pair: its place in the list, the pair, and where it goes; no open pair comes before it in the order
pub record LeastAt (v f : ℕ) (w : List ℕ) (p q : List Float) (n : ℕ) (limit : Option Float) (bound : Float) (r : Least) : Type 0 where
  pub within : r.at < n
  pub pair_unchanged : pair_at v f w r.at ≡ pair_of r.fold.keep r.fold.remove
  pub place : r.fold.place ≡ pair_place bound (vertex_at v f w p q r.fold.keep) (vertex_at v f w p q r.fold.remove)
  pub least : (j : ℕ) → j < n → order (rules_of limit bound) (mesh_of v f w p q) (pair_at v f w r.at) ≤ order (rules_of limit bound) (mesh_of v f w p q) (pair_at v f w j)

-- a pair is closed: one fewer, and any weight summed over the rest and added to its own is the old sum
pub record Closed (v f : ℕ) (w : List ℕ) (n at : ℕ) (w' : List ℕ) (n' : ℕ) : Type 0 where
  pub but : But (keeps_from v f) (near_from v f) w w'
  pub fewer : n' + 1 ≡ n
  pub sums : (g : Pair → ℕ) → sum g (open_pairs v f w' n') + g (pair_at v f w at) ≡ sum g (open_pairs v f w n)

-- the pairs that touch keep or remove are closed, and the others stay, in order
pub record Dropped (v f : ℕ) (w : List ℕ) (n keep remove : ℕ) (w' : List ℕ) (n' : ℕ) : Type 0 where
  pub but : But (keeps_from v f) (near_from v f) w w'
  pub kept : open_pairs v f w' n' ≡ those (apart (pair_of keep remove)) (open_pairs v f w n)

-- pairs are opened: a list of them is added, in any order. Marks, faces and points are as before.
pub record Added (v f : ℕ) (w : List ℕ) (n : ℕ) (more : List Pair) (w' : List ℕ) (n' : ℕ) : Type 0 where
  pub but : But (keeps_from v f) (folds_from v f) w w'
  pub sums : (g : Pair → ℕ) → sum g (open_pairs v f w' n') ≡ sum g (open_pairs v f w n) + sum g more
