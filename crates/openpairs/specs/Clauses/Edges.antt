-- The pairs that are opened around a point: at the start by the face edges that rise from it, after a fold with each of its neighbours.
use Rattle.std.specs.Prelude.{ℕ, List, map, ◌&&◌, length}
use Rattle.walk.specs.declared.Pair.{Pair}
use Rattle.lists.specs.Lists.{those, below}
use Rattle.walk.specs.Faces.{Rules, Mesh}
use Rattle.ring.specs.declared.Neighbours.{Neighbours}
use Rattle.ring.specs.declared.Neighbours.TheVariants.{Rising, Every}
use Rattle.walk.specs.Pairs.{pair_of, rises, eligible_pair, opened}

module _ {D : Type 0} (rules : Rules D) (m : Mesh D) where
  -- the pairs that the start opens from x on
  unfoldable pub rising_from : ℕ → List Pair
  rising_from x =
      map (pair_of x) (those (λ y. rises m.faces (pair_of x y) && eligible_pair rules m (pair_of x y)) (below (length m.points)))

  -- the pairs that are opened around x
  abbrev pub opened_around : Neighbours → ℕ → List Pair
  opened_around Rising x = rising_from x
  opened_around Every x = opened rules m x
