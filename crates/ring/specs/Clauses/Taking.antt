-- Marks are taken off, and each point whose mark is taken off is listed.
use Rattle.std.specs.Prelude.{ℕ, ◌+◌, ◌≤◌, ◌<◌, ◌≡◌, List, Bool, not, cond, eqb, length, get_or}
use Rattle.lists.specs.Lists.{sum, those, below}
use Rattle.memory.specs.Memory.{mark, Room, around_in}
use Rattle.memory.specs.Layout.{around_from, marks_from, folds_from, stamps_from}

-- the points that are marked
unfoldable pub marked : ℕ → ℕ → List ℕ → List ℕ
marked v f w = those (λ u. not (eqb (mark v f w u) 0)) (below v)

-- the same but for marks and listed points
pub record Framed (v f : ℕ) (w w' : List ℕ) : Type 0 where
  pub same_length : length w' ≡ length w
  pub under : (i : ℕ) → i < marks_from v f → get_or w' i 0 ≡ get_or w i 0
  pub between : (i : ℕ) → stamps_from v f ≤ i → i < around_from v f → get_or w' i 0 ≡ get_or w i 0
  pub over : (i : ℕ) → folds_from v f ≤ i → get_or w' i 0 ≡ get_or w i 0

-- Some marks are taken off, and their points are listed: listed points and marked ones are together the same.
pub record Taken (v f : ℕ) (which : ℕ → Bool) (w : List ℕ) (n : ℕ) (w' : List ℕ) (n' : ℕ) : Type 0 where
  pub frame : Framed v f w w'
  pub marks : (u : ℕ) → u < v → mark v f w' u ≡ cond (which u) 0 (mark v f w u)
  pub sums : (g : ℕ → ℕ) → sum g (around_in v f w' n') + sum g (marked v f w') ≡ sum g (around_in v f w n) + sum g (marked v f w)

-- the lent memory has its room, and there is a place for each marked point
pub record MarksReady (v f : ℕ) (w : List ℕ) (n : ℕ) : Type 0 where
  pub room : Room v f w
  pub enough : n + length (marked v f w) ≤ v
