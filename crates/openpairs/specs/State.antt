-- The open pairs in the lent u32 memory: n of them, keep in the cells from 7F + 4V on and remove in those from 10F + 4V on.
use Rattle.std.specs.Prelude.{ℕ, List, map, Float}
use Rattle.placement.specs.declared.pair.Vertex.{Vertex}
use Rattle.walk.specs.declared.Pair.{Pair}
use Rattle.lists.specs.Lists.{below}
use Rattle.walk.specs.Walk.{State}
use Rattle.memory.specs.Points.{mesh_of}
use Rattle.memory.specs.Entries.{pair_at}

-- the open pairs, in the order in which they stand
unfoldable pub open_pairs : ℕ → ℕ → List ℕ → ℕ → List Pair
unfolding below
open_pairs v f w n = map (pair_at v f w) (below n)

-- the walk's state in memory
unfoldable pub state_of : ℕ → ℕ → List ℕ → List Float → List Float → ℕ → State Vertex
unfolding mesh_of open_pairs
state_of v f w p q n = record { mesh = mesh_of v f w p q; «open» = open_pairs v f w n }
