-- Listed points wait to be opened with x, and the lent memory while they are.
use Rattle.std.specs.Prelude.{ℕ, ◌+◌, ◌*◌, ◌≤◌, ◌<◌, List, map, Bool, length, get_or, Float, Option}
use Rattle.placement.specs.Pairs.{eligible}
use Rattle.walk.specs.declared.Pair.{Pair}
use Rattle.lists.specs.Lists.{those}
use Rattle.walk.specs.Pairs.{pair_of}
use Rattle.memory.specs.Memory.{Room, around_in}
use Rattle.memory.specs.Points.{vertex_at}
use Rattle.memory.specs.Layout.{around_from}

module _ (v f : ℕ) (w : List ℕ) (p q : List Float) (limit : Option Float) (bound : Float) (x : ℕ) where
  -- whether x with y is eligible
  unfoldable pub fits : ℕ → Bool
  fits y = eligible limit bound (vertex_at v f w p q x) (vertex_at v f w p q y)

  -- x with each of the first n listed points, where the pair is eligible
  unfoldable pub waiting : ℕ → List Pair
  waiting n = map (pair_of x) (those fits (around_in v f w n))

-- the lent memory has its room, x and the listed points are some of the points, and there is a place for each pair that waits
pub record PairsReady (v f : ℕ) (w : List ℕ) (p q : List Float) (limit : Option Float) (bound : Float) (x count n : ℕ) : Type 0 where
  pub room : Room v f w
  pub points_long : 3 * v ≤ length p
  pub quadrics_long : 10 * v ≤ length q
  pub point : x < v
  pub few : count ≤ v
  pub points : (i : ℕ) → i < count → get_or w (around_from v f + i) 0 < v
  pub enough : n + length (waiting v f w p q limit bound x count) ≤ 3 * f
