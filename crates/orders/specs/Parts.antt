-- Parts of buffers: their cells, and a list with other cells in a part's place.
use Rattle.std.specs.Prelude.{ℕ, ◌+◌, ◌≤◌, ◌<◌, List, ◌++◌, length, take, drop}
use Rattle.orders.specs.declared.Part.{Part}

abbrev pub part : ℕ → ℕ → Part
part from len = record { from = from; len = len }

-- the cells of a part
abbrev pub cells_of : {A : Type 0} → Part → List A → List A
cells_of p cells = take p.len (drop p.from cells)

-- a list with other cells in a part's place
abbrev pub replaced : {A : Type 0} → Part → List A → List A → List A
replaced p new cells = take p.from cells ++ (new ++ drop p.len (drop p.from cells))

-- a part lies in a list
abbrev pub Within : {A : Type 0} → Part → List A → Type 0
Within p cells = p.from + p.len ≤ length cells

-- a cell of a part
pub record In (p : Part) (c : ℕ) : Type 0 where
  pub from : p.from ≤ c
  pub to : c < p.from + p.len
