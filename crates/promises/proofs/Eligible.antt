-- Every pair that is open in a state of the walk is eligible in the mesh of that state, so every cost that the walk compares is finite.
-- Assumes nothing, not even that the input is admitted.
use Prim.Native.Nat.{ℕ}
use mathlib.Core.Path.{◌≡◌}
use mathlib.Core.Bool.{true, false, not, ◌&&◌, ◌||◌}
use borrow.Author.Tests.{not-true}
use lib.Ieee.{Float}
use lib.Ieee.Scale.{finite}
use Rattle.std.specs.Prelude.{Option}
use Rattle.lists.specs.Lists.{every}
use Rattle.lists.proofs.TestLaws.{both_true, neither-of}
use Rattle.lists.proofs.EveryLaws.{every-implies}
use Rattle.placement.specs.declared.pair.Vertex.{Vertex}
use Rattle.placement.specs.Choices.{fixed, above_limit}
use Rattle.placement.specs.Pairs.{pair_length, pair_cost, eligible}
use Rattle.walk.specs.declared.Pair.{Pair}
use Rattle.walk.specs.Pairs.{eligible_pair}
use Rattle.walk.specs.Walk.{folded}
use Rattle.walk.proofs.EligibleLaws.{started-eligible, walk-eligible, folded-eligible}
use Rattle.meaning.specs.Input.{Input, points_in, faces_in, bound_in}
use Rattle.meaning.specs.Arithmetic.{rules_of}
use Rattle.meaning.specs.Start.{start_mesh}
use Rattle.meaning.specs.Outcome.{rules_in, start_of, target_of}
use Rattle.promises.specs.Steps.{state_at, answer_at, carried}

-- what an eligible pair is: neither point is fixed, its length is not above the limit, and its cost is finite
pub record Fit (limit : Option Float) (bound : Float) (keep remove : Vertex) : Type 0 where
  pub keep_free : fixed keep.kind ≡ false
  pub remove_free : fixed remove.kind ≡ false
  pub not_long : above_limit (pair_length keep remove) limit ≡ false
  pub cost_finite : finite (pair_cost bound keep remove) ≡ true

-- the test says so
pub eligible-fit : (limit : Option Float) (bound : Float) (keep remove : Vertex) → eligible limit bound keep remove ≡ true → Fit limit bound keep remove
unfolding eligible
eligible-fit limit bound keep remove e =
    let parts = both_true (not (fixed keep.kind || fixed remove.kind) && not (above_limit (pair_length keep remove) limit)) (finite (pair_cost bound keep remove)) e in
    let free = both_true (not (fixed keep.kind || fixed remove.kind)) (not (above_limit (pair_length keep remove) limit)) parts.0 in
    let neither = neither-of (fixed keep.kind) (fixed remove.kind) (not-true _ free.0) in
    record { keep_free = neither.0; remove_free = neither.1; not_long = not-true _ free.1; cost_finite = parts.1 }

module _ (i : Input) (n : ℕ) where
  -- every open pair is eligible in the present mesh
  pub open-eligible : every (eligible_pair (rules_in i) (state_at i n).mesh) (state_at i n).«open» ≡ true
  unfolding start_of
  open-eligible =
      walk-eligible (rules_in i) (target_of i) n (start_of i)
      (started-eligible (rules_in i) (start_mesh (points_in i) (faces_in i) i.points i.faces i.options.preserve i.margin))

  -- so its cost is finite
  pub costs-finite : every (λ p. finite (pair_cost (bound_in i) (carried i n p.keep) (carried i n p.remove))) (state_at i n).«open» ≡ true
  unfolding rules_of
  costs-finite =
      every-implies (eligible_pair (rules_in i) (state_at i n).mesh) (λ p. finite (pair_cost (bound_in i) (carried i n p.keep) (carried i n p.remove)))
      (λ p e. (eligible-fit i.options.limit (bound_in i) (carried i n p.keep) (carried i n p.remove) e).cost_finite)
      (state_at i n).«open» open-eligible

  -- and a pair that is folded was eligible
  pub folded-fit : (p : Pair) → answer_at i n ≡ folded p → Fit i.options.limit (bound_in i) (carried i n p.keep) (carried i n p.remove)
  unfolding rules_of
  folded-fit p e =
      eligible-fit i.options.limit (bound_in i) (carried i n p.keep) (carried i n p.remove)
      (folded-eligible (rules_in i) (target_of i) (state_at i n) p open-eligible e)
