-- What trying the pair of an entry that was taken off asks, and what it leaves; and what is answered at the end.
use Rattle.std.specs.Prelude.{ℕ, ◌≡◌, List, ◌∷◌, Float, Option}
use Rattle.geometry.specs.declared.Point.{Point}
use Rattle.placement.specs.declared.pair.Vertex.{Vertex}
use Rattle.placement.specs.Pairs.{pair_place}
use Rattle.walk.specs.declared.Pair.{Pair}
use Rattle.walk.specs.Pairs.{pair_of}
use Rattle.walk.specs.Walk.{State, StepAnswer}
use Rattle.memory.specs.Points.{vertex_at, mesh_of}
use Rattle.queue.specs.State.{open_in}
use Rattle.queue.specs.Stored.{stamps_of, entries_in, Requeued}
use Rattle.plainwalk.specs.declared.Stepped.{Stepped}
use Rattle.plainwalk.specs.declared.Step.TheVariants.{Ended}
use Rattle.heapwalk.specs.Entries.{new_entries}
use Rattle.heapwalk.specs.Steps.{Held, StampsRaised, HeapAnswer}

-- the state while a pair is off the queue: it is still open
unfoldable pub pair_state : ℕ → ℕ → List ℕ → List Float → List Float → ℕ → Pair → State Vertex
unfolding mesh_of open_in
pair_state v f w p q n x = record { mesh = mesh_of v f w p q; «open» = x ∷ open_in v f w n }

-- a pair that is off the queue, with the place where it goes
pub record PairHolds (v f : ℕ) (w : List ℕ) (p q : List Float) (n live : ℕ) (bound : Float) (keep remove : ℕ) (place : Point) : Type 0 where
  pub held : Held v f w p q n live bound (pair_state v f w p q n (pair_of keep remove))
  pub same_place : place ≡ pair_place bound (vertex_at v f w p q keep) (vertex_at v f w p q remove)

-- A pair that is off the queue is folded or closed: the answer is tied to the plain walk's, old entries may be thrown out, the others stay, and new ones are
-- put in.
pub record PairAnswer (v f : ℕ) (w : List ℕ) (p q : List Float) (n keep remove : ℕ) (limit : Option Float) (bound : Float) (a : StepAnswer) (w' : List ℕ) (p' q' : List Float)
    (r : Stepped) : Type 0 where
  pub tied : HeapAnswer v f (pair_state v f w p q n (pair_of keep remove)) w p q limit bound a w' p' q' r
  pub raised : StampsRaised v f w a w'
  pub requeued : Requeued (stamps_of v f w') (entries_in v f w p q n) (new_entries limit bound (mesh_of v f w' p' q') (stamps_of v f w') a)
      (entries_in v f w' p' q' r.«open»)

-- what a step answers at the end
abbrev pub ended_with : (entries live : ℕ) → Stepped
ended_with entries live = record { step = Ended; «open» = entries; live = live }
