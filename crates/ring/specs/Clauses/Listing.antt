-- The points around a point, listed in the lent u32 memory: at most V of them.
use Rattle.std.specs.Prelude.{ℕ, ◌≡◌, List, Bool}
use Rattle.walk.specs.declared.Face.{Face}
use Rattle.lists.specs.Lists.{sum, those, below}
use Rattle.walk.specs.Faces.{neighbour}
use Rattle.walk.specs.Pairs.{pair_of, rises}
use Rattle.memory.specs.Memory.{live_faces, around_in}
use Rattle.ring.specs.declared.Neighbours.{Neighbours}
use Rattle.ring.specs.declared.Neighbours.TheVariants.{Rising, Every}
use Rattle.lists.specs.Frames.{But}
use Rattle.memory.specs.Layout.{near_from, folds_from}

-- which points are listed around x: at the start those to which a face edge rises from x, after a fold its neighbours
abbrev pub is_around : Neighbours → List Face → ℕ → ℕ → Bool
is_around Rising faces x y = rises faces (pair_of x y)
is_around Every faces x y = neighbour faces x y

-- The points around x are listed, each once, in any order. Only the cells of the lists of faces and points change.
pub record AroundListed (v f : ℕ) (w : List ℕ) (which : Neighbours) (x : ℕ) (w' : List ℕ) (n : ℕ) : Type 0 where
  pub but : But (near_from v f) (folds_from v f) w w'
  pub sums : (g : ℕ → ℕ) → sum g (around_in v f w' n) ≡ sum g (those (is_around which (live_faces f w) x) (below v))
