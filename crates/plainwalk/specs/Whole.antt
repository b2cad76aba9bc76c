-- The whole walk in memory, tied to the plain walk.
use Rattle.std.specs.Prelude.{ℕ, ◌≡◌, List, length, Float, Option}
use Rattle.placement.specs.declared.pair.Vertex.{Vertex}
use Rattle.walk.specs.Walk.{walk, fold_list, reason_list, State, budget, started, plain_machine}
use Rattle.walk.specs.Closings.{closings_of}
use Rattle.memory.specs.Points.{mesh_of}
use Rattle.meaning.specs.Arithmetic.{rules_of}
use Rattle.plainwalk.specs.Steps.{Within}
use Rattle.plainwalk.specs.declared.Walked.{Walked}
use Rattle.memory.specs.Memory.{live_faces}
use Rattle.mesh.specs.Clauses.Chains.{Tidy}
use Rattle.memory.specs.Entries.{folds_in}

-- the state at the start of the walk of the mesh in memory
abbrev pub start_in : ℕ → ℕ → List ℕ → List Float → List Float → Option Float → Float → State Vertex
start_in v f w p q limit bound = started (rules_of limit bound) (mesh_of v f w p q)

-- The mesh after a walk, the folds that it has written down, their number and the pairs closed by reason are those of the plain walk from a state s, in
-- order, on a budget that is always enough.
pub record WalkedFrom (v f : ℕ) (s : State Vertex) (w : List ℕ) (p q : List Float) (target : ℕ) (limit : Option Float) (bound : Float) (w' : List ℕ) (p' q' : List Float) (r : Walked) : Type 0 where
  pub tidy : Tidy v f w'
  pub within : Within v f w p q w' p' q'
  pub same_mesh : mesh_of v f w' p' q' ≡ (walk (plain_machine (rules_of limit bound) target) (budget f s) s).mesh
  pub same_folds : r.folds ≡ length (fold_list (plain_machine (rules_of limit bound) target) (budget f s) s)
  pub same_list : folds_in v f w' r.folds ≡ fold_list (plain_machine (rules_of limit bound) target) (budget f s) s
  pub same_closed : r.closed ≡ closings_of (reason_list (plain_machine (rules_of limit bound) target) (budget f s) s)
  pub counted : r.live ≡ length (live_faces f w')

-- the whole walk, from the start
abbrev pub WalkDone : (v f : ℕ) (w : List ℕ) (p q : List Float) (target : ℕ) (limit : Option Float) (bound : Float) (w' : List ℕ) (p' q' : List Float) (r : Walked) → Type 0
WalkDone v f w p q target limit bound w' p' q' r = WalkedFrom v f (start_in v f w p q limit bound) w p q target limit bound w' p' q' r
