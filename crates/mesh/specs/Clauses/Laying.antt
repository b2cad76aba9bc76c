-- What the steps of laying a mesh out leave in the memory.
use Rattle.std.specs.Prelude.{ℕ, ◌*◌, List, true}
use Rattle.lists.specs.Frames.{But}
use Rattle.mesh.specs.Clauses.Chains.{Chains}
use Rattle.memory.specs.Layout.{kinds_from}

-- every corner is in its point's chain, and no cell but links has changed
pub record Joined (v f : ℕ) (w w' : List ℕ) : Type 0 where
  pub but : But (4 * f) (kinds_from v f) w w'
  pub chains : Chains v f w' (λ c. true)
