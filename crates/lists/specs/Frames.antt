-- Cells of a list that change, and cells that don't.
use Rattle.std.specs.Prelude.{ℕ, ◌+◌, ◌≤◌, ◌<◌, ◌≡◌, List, length, get_or, drop, Float}
use Rattle.std.specs.Float.{nan}

-- as long as before, and the same but for the cells from lo up to hi
pub record But (lo hi : ℕ) (w w' : List ℕ) : Type 0 where
  pub same_length : length w' ≡ length w
  pub under : (i : ℕ) → i < lo → get_or w' i 0 ≡ get_or w i 0
  pub over : (i : ℕ) → hi ≤ i → get_or w' i 0 ≡ get_or w i 0

-- the same of floats
pub record FloatsBut (lo hi : ℕ) (p p' : List Float) : Type 0 where
  pub same_length : length p' ≡ length p
  pub under : (i : ℕ) → i < lo → get_or p' i nan ≡ get_or p i nan
  pub rest : drop hi p' ≡ drop hi p

-- the n cells from start on hold the values of a rule, and no other cell has changed
pub record Written (start n : ℕ) (value : ℕ → ℕ) (w w' : List ℕ) : Type 0 where
  pub but : But start (start + n) w w'
  pub cells : (i : ℕ) → i < n → get_or w' (start + i) 0 ≡ value i
