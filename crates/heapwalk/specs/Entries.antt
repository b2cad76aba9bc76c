-- The entries that a step puts into the queue.
use Rattle.std.specs.Prelude.{ℕ, List, [], map, Bool, false, ◌||◌, eqb, Float, get_or, Option}
use Rattle.placement.specs.declared.pair.Vertex.{Vertex}
use Rattle.placement.specs.Pairs.{pair_place, pair_cost}
use Rattle.walk.specs.declared.Pair.{Pair}
use Rattle.walk.specs.Faces.{Mesh, data_of}
use Rattle.walk.specs.Pairs.{opened}
use Rattle.walk.specs.Walk.{StepAnswer, folded, closed, ended}
use Rattle.meaning.specs.Arithmetic.{rules_of}
use Rattle.memory.specs.declared.entries.Entry.{Entry}

module _ (limit : Option Float) (bound : Float) (m : Mesh Vertex) (stamps : List ℕ) where
  -- the entry that a pair gets in a mesh: its cost and its place there, and the stamps of its points
  unfoldable pub entry_for : Pair → Entry
  entry_for x =
      let keep = data_of (rules_of limit bound) m x.keep in
      let remove = data_of (rules_of limit bound) m x.remove in
      record {
        pair = x;
        cost = pair_cost bound keep remove;
        place = pair_place bound keep remove;
        keepstamp = get_or stamps x.keep 0;
        removestamp = get_or stamps x.remove 0;
      }

  -- those that an answer puts in: a fold opens keep with each present neighbour
  abbrev pub new_entries : StepAnswer → List Entry
  new_entries (folded x) = map entry_for (opened (rules_of limit bound) m x.keep)
  new_entries (closed x reason) = []
  new_entries ended = []

-- the points whose stamps an answer raises: both of a fold
abbrev pub raises : StepAnswer → ℕ → Bool
raises (folded x) y = eqb y x.keep || eqb y x.remove
raises (closed x reason) y = false
raises ended y = false
