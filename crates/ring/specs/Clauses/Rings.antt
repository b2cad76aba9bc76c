-- The faces around the two points of a pair, as two lists in the memory.
use Rattle.std.specs.Prelude.{ℕ, ◌+◌, ◌≤◌, List, length}
use Rattle.lists.specs.Frames.{But}
use Rattle.memory.specs.Layout.{near_from, around_from}
use Rattle.mesh.specs.Clauses.Around.{Gathered}
use Rattle.ring.specs.declared.Ring.{Ring}

-- the faces around keep are listed from near on and those around remove from far on, past all that a state lies in
pub record Ringed (v f : ℕ) (w : List ℕ) (keep remove : ℕ) (ring : Ring) : Type 0 where
  pub around_keep : Gathered v f w keep ring.near ring.nears
  pub around_remove : Gathered v f w remove ring.far ring.fars
  pub past_pairs : near_from v f ≤ ring.near
  pub one_after_other : ring.near + f ≤ ring.far
  pub within : ring.far + f ≤ length w

-- what gathering leaves: only the cells of the two lists change
pub record RingGathered (v f : ℕ) (w : List ℕ) (keep remove : ℕ) (w' : List ℕ) (ring : Ring) : Type 0 where
  pub but : But (near_from v f) (around_from v f) w w'
  pub ringed : Ringed v f w' keep remove ring
