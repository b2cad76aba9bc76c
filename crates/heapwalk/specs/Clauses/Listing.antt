-- A point is opened with the points of a list: what that asks, and what is true on the way.
use Rattle.std.specs.Prelude.{ℕ, ◌+◌, ◌*◌, ◌≤◌, ◌<◌, ◌≡◌, List, map, true, ltb, length, get_or, Float, Option}
use Rattle.walk.specs.declared.Pair.{Pair}
use Rattle.lists.specs.Lists.{those, every}
use Rattle.walk.specs.Pairs.{pair_of}
use Rattle.openpairs.specs.Clauses.Waiting.{fits}
use Rattle.queue.specs.State.{open_in}
use Rattle.heapwalk.specs.Clauses.Entering.{Open, Entered}
use Rattle.memory.specs.Layout.{folds_from, near_from}

-- x with each point of a list, where the pair is eligible
abbrev pub pairs_with : ℕ → ℕ → List ℕ → List Float → List Float → Option Float → Float → ℕ → List ℕ → List Pair
pairs_with v f w p q limit bound x ys = map (pair_of x) (those (fits v f w p q limit bound x) ys)

-- x may be opened with the points of a list: there are such points, and there is a place for each entry
pub record Enterable (v f : ℕ) (w : List ℕ) (p q : List Float) (n : ℕ) (limit : Option Float) (bound : Float) (x : ℕ) (ys : List ℕ) : Type 0 where
  pub «open» : Open v f w p q n bound
  pub point : x < v
  pub points : every (λ y. ltb y v) ys ≡ true
  pub enough : length (open_in v f w n) + length (pairs_with v f w p q limit bound x ys) ≤ 3 * f

-- entries for a list of pairs are put in, and the lists around a point stay
pub record EnteredBeside (v f : ℕ) (w : List ℕ) (p q : List Float) (n : ℕ) (limit : Option Float) (bound : Float) (more : List Pair)
    (w' : List ℕ) (p' q' : List Float) (n' : ℕ) : Type 0 where
  pub entered : Entered v f w p q n limit bound more w' p' q' n'
  pub lists-same : (i : ℕ) → near_from v f ≤ i → i < folds_from v f → get_or w' i 0 ≡ get_or w i 0
