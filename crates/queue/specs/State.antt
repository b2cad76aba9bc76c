-- The entries of the queue in the lent memory: n of them in the first n places, in the order of a heap. A point's stamp grows with every fold that touches
-- it, so an entry whose stamps are not the present ones is old.
use Rattle.std.specs.Prelude.{ℕ, List, map, Bool, ◌&&◌, eqb, Float}
use Rattle.placement.specs.declared.pair.Vertex.{Vertex}
use Rattle.walk.specs.declared.Pair.{Pair}
use Rattle.lists.specs.Lists.{those, below}
use Rattle.walk.specs.Walk.{State}
use Rattle.memory.specs.Points.{mesh_of}
use Rattle.memory.specs.Entries.{entry_pair, stamp, keep_stamp, remove_stamp}

-- the entry in a place is current while its stamps are the present ones
abbrev pub is_current : ℕ → ℕ → List ℕ → ℕ → Bool
is_current v f w i =
    eqb (keep_stamp v f w i) (stamp v f w (entry_pair v f w i).keep) && eqb (remove_stamp v f w i) (stamp v f w (entry_pair v f w i).remove)

-- the open pairs: those of the current entries
unfoldable pub open_in : ℕ → ℕ → List ℕ → ℕ → List Pair
unfolding those below
open_in v f w n = map (entry_pair v f w) (those (is_current v f w) (below n))

-- the walk's state in memory, as the heap walk holds it
unfoldable pub heap_state : ℕ → ℕ → List ℕ → List Float → List Float → ℕ → State Vertex
unfolding mesh_of open_in
heap_state v f w p q n = record { mesh = mesh_of v f w p q; «open» = open_in v f w n }
