-- The pairs that the start and a fold open, as sums over the numbers of the points.
-- Assumes nothing.
use Prim.Native.Nat.{ℕ, ◌+◌}
use mathlib.Core.Path.{◌≡◌, ◌∙◌}
use mathlib.Core.List.{map}
use mathlib.Core.Bool.{true, ◌&&◌, cond}
use lib.ListN.{length}
use Rattle.walk.specs.declared.Pair.{Pair}
use Rattle.walk.specs.declared.Reason.{Reason}
use Rattle.lists.specs.Lists.{sum, some, below}
use Rattle.walk.specs.Faces.{neighbour, Rules, Mesh}
use Rattle.walk.specs.Fold.{folded_mesh}
use Rattle.walk.specs.Walk.{State, folded, closed, started, after}
use Rattle.walk.specs.Pairs.{pair_of, same_pair, apart, pairs_below, rises, eligible_pair, opened}
use Rattle.lists.proofs.SumLaws.{sum-append, sum-those, sum-map, sum-flat_map, sum_same}
use Rattle.walk.proofs.SamePairs.{sum-without-pair}

-- every two numbers below v, as a sum of sums
pub sum-pairs_below : (g : Pair → ℕ) (v : ℕ) → sum g (pairs_below v) ≡ sum (λ x. sum (λ y. g (pair_of x y)) (below v)) (below v)
unfolding pairs_below
sum-pairs_below g v =
    sum-flat_map g (λ x. map (pair_of x) (below v)) (below v) ∙ sum_same _ _ (λ x. sum-map g (pair_of x) (below v)) (below v)

module _ {D : Type 0} (rules : Rules D) (m : Mesh D) where
  -- what the start opens
  pub started-sum : (g : Pair → ℕ) →
      sum g (started rules m).«open»
      ≡ sum
      (λ x. sum (λ y. cond (rises m.faces (pair_of x y) && eligible_pair rules m (pair_of x y)) (g (pair_of x y)) 0) (below (length m.points)))
      (below (length m.points))
  unfolding started
  started-sum g = sum-those g (λ p. rises m.faces p && eligible_pair rules m p) (pairs_below (length m.points)) ∙ sum-pairs_below _ (length m.points)

  -- what a fold opens, with keep's number and the mesh after it
  pub opened-sum : (g : Pair → ℕ) (keep : ℕ) →
      sum g (opened rules m keep)
      ≡ sum (λ n. cond (neighbour m.faces keep n && eligible_pair rules m (pair_of keep n)) (g (pair_of keep n)) 0) (below (length m.points))
  unfolding opened
  opened-sum g keep = sum-map g (pair_of keep) _ ∙ sum-those (λ n. g (pair_of keep n)) _ (below (length m.points))

-- ---- what is open after a pair is folded or closed

module _ {D : Type 0} (rules : Rules D) (s : State D) (p : Pair) where
  pub folded-sum : (g : Pair → ℕ) →
      sum g (after rules s (folded p)).«open»
      ≡ sum (λ q. cond (apart p q) (g q) 0) s.«open» + sum g (opened rules (folded_mesh rules s.mesh p) p.keep)
  unfolding after
  folded-sum g = rw (sum-append, sum-those)

  pub closed-sum : (reason : Reason) (g : Pair → ℕ) → some (same_pair p) s.«open» ≡ true →
      sum g (after rules s (closed p reason)).«open» + g p ≡ sum g s.«open»
  unfolding after
  closed-sum reason g = sum-without-pair g p s.«open»
