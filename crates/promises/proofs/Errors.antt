-- On the way no error at a place that is compared, no cost and no length of a pair is a NaN or an infinity: for every two points that live faces hold, in
-- every state that the walk of an admitted mesh reaches. So the rule that a pair's cost is finite never refuses one. The bound is the unit's, a
-- power of two up to 2^20 (`unit-power`, `unit-power-most` of `Finite`). Assumes nothing.
use Prim.Native.Nat.{ℕ, ◌^◌, ◌≤◌, ◌<◌}
use native.Mathlib.Nat.{le_trans, le_of_eq, mul-le-mul_right, one-mul}
use native.Mathlib.Omega.{arith}
use mathlib.Core.Path.{◌≡◌, sym, subst, ◌∙◌}
use mathlib.Core.Bool.{true, not, ◌&&◌, ◌||◌, cond, and-true}
use lib.Pow.{pow-add}
use lib.ListN.{length}
use lib.Ieee.{Float}
use Rattle.std.specs.Prelude.{Option}
use Rattle.lists.proofs.TestLaws.{flag_true}
use Rattle.lists.proofs.SumLaws.{witness}
use Rattle.placement.specs.declared.pair.Vertex.{Vertex}
use Rattle.placement.specs.Choices.{fixed, above_limit}
use Rattle.placement.specs.Pairs.{pair_quadric, pair_length, pair_place, pair_cost, eligible}
use Rattle.walk.specs.declared.Pair.{Pair}
use Rattle.walk.specs.Faces.{holds, proper}
use Rattle.walk.specs.Pairs.{pair_of, eligible_pair}
use Rattle.walk.specs.Sound.{Sound}
use Rattle.walk.proofs.FaceLaws.{held_below}
use Rattle.walk.proofs.SoundLaws.{is_open_pair, open_shared}
use Rattle.std.specs.Prelude.{Ok}
use Rattle.meaning.specs.declared.Task.TheVariants.{Admitted}
use Rattle.meaning.specs.Arithmetic.{rules_of}
use Rattle.meaning.specs.Input.{Input, bound_in}
use Rattle.meaning.specs.Answers.{verdict_of}
use Rattle.meaning.specs.Outcome.{rules_in, start_of, target_of}
use Rattle.promises.specs.Steps.{state_at, carried}
use Rattle.promises.specs.Finite.{small_vertex, power}
use Rattle.promises.specs.Errors.{held, PairFinite}
use Rattle.promises.proofs.Bounded.{small-within, within_wider, middle-within, place-within}
use Rattle.promises.proofs.Finite.{power_within, power_in, power-most, data-small, walk-finite}
use Rattle.promises.proofs.ErrorsPlanes.{length-finite}
use Rattle.promises.proofs.ErrorsQuadrics.{QuadricWithin, quadric-wider, error-finite}
use Rattle.promises.proofs.Weights.{shared-held, Weighed, two-weights, pair-within, walk-weighed}
use Rattle.promises.proofs.WeightsStart.{start-weighed}
use Rattle.promises.proofs.Ended.{start-sound}

-- ---- one pair

-- its numbers are finite where the points are within the bound, and the pair's quadric has a weight of at most 2^20
pair-finite :
    {bound : Float} (b w : ℕ) → b ≤ 20 → bound ≡ power b → (keep remove : Vertex)
    → small_vertex bound keep ≡ true → small_vertex bound remove ≡ true → w ≤ 2 ^ 20 → QuadricWithin w 194 (pair_quadric keep remove) → PairFinite bound keep remove
unfolding pair_length pair_cost pair_place
pair-finite b w fits is-power keep remove keep-small remove-small few q =
    let k = small-within b keep.point (subst (λ (c : Float). small_vertex c keep ≡ true) is-power keep-small) in
    let r = small-within b remove.point (subst (λ (c : Float). small_vertex c remove ≡ true) is-power remove-small) in
    let wide = quadric-wider 1 214 (le_trans (mul-le-mul_right (2 ^ 194) few) (le_of_eq (sym (pow-add 2 20 194) ∙ sym (one-mul (2 ^ 214))))) q in
    record {
      length_known = length-finite (within_wider fits k) (within_wider fits r);
      error_at_keep = error-finite wide (within_wider fits k);
      error_at_remove = error-finite wide (within_wider fits r);
      error_at_middle = error-finite wide (within_wider fits (middle-within b (omega arith) keep.point remove.point k r));
      cost_known = rw is-power (error-finite wide (within_wider fits (place-within b (omega arith) _ _ keep.point remove.point k r)));
    }

-- its cost being finite, the other two rules make it eligible or not
by-rest :
    (limit : Option Float) {bound : Float} {keep remove : Vertex} → PairFinite bound keep remove
    → eligible limit bound keep remove ≡ (not (fixed keep.kind || fixed remove.kind) && not (above_limit (pair_length keep remove) limit))
unfolding eligible
by-rest limit {bound} {keep} {remove} known =
    rw known.cost_known (and-true (not (fixed keep.kind || fixed remove.kind) && not (above_limit (pair_length keep remove) limit)))

-- ---- in every state that the walk reaches

module _ (i : Input) (admitted : verdict_of i ≡ Ok Admitted) (n : ℕ) where
  -- it is sound, and the quadrics have their weights
  reached : Sound (state_at i n) × Weighed i.options.limit (bound_in i) (state_at i n).mesh
  reached =
      walk-weighed i.options.limit (bound_in i) (target_of i) n (start_of i) (start-sound i admitted) (start-weighed i admitted)

  -- a point that a live face holds is one that there is
  held-inside : (x : ℕ) → held (state_at i n).mesh.faces x → x < length (state_at i n).mesh.points
  held-inside x h =
      let v = length (state_at i n).mesh.points in
      let w = witness (proper v) (λ f. cond (holds x f) 1 0) (state_at i n).mesh.faces reached.0.faces_proper h in
      held_below v w.0 x w.1 (flag_true (holds x w.0) w.2)

  -- every two points that live faces hold make a pair whose numbers are finite
  pub pairs-finite : (x y : ℕ) → held (state_at i n).mesh.faces x → held (state_at i n).mesh.faces y → PairFinite (bound_in i) (carried i n x) (carried i n y)
  pairs-finite x y x-held y-held =
      let small = walk-finite i admitted n in
      let fits = power-most i in
      let x-v = held-inside x x-held in
      let y-v = held-inside y y-held in
      pair-finite (power_within i) _ fits (power_in i) (carried i n x) (carried i n y)
      (data-small i.options.limit (power_within i) (omega arith) (power_in i) (state_at i n).mesh small x)
      (data-small i.options.limit (power_within i) (omega arith) (power_in i) (state_at i n).mesh small y)
      (two-weights i.options.limit (bound_in i) (state_at i n).mesh reached.1 x y x-v y-v)
      (pair-within i.options.limit (bound_in i) (state_at i n).mesh reached.1 x y x-v y-v x-held y-held)

  -- so the numbers of every open pair are: the walk compares finite costs
  pub open-finite : (p : Pair) → is_open_pair (state_at i n) p → PairFinite (bound_in i) (carried i n p.keep) (carried i n p.remove)
  open-finite p is_open =
      let both = shared-held (state_at i n).mesh.faces p.keep p.remove (open_shared (state_at i n) reached.0 p is_open) in
      pairs-finite p.keep p.remove both.0 both.1

  -- and the rule that a pair's cost is finite refuses none of them: fixed points and the limit on the length decide alone
  pub eligible-alone :
      (x y : ℕ) → held (state_at i n).mesh.faces x → held (state_at i n).mesh.faces y
      → eligible_pair (rules_in i) (state_at i n).mesh (pair_of x y)
      ≡ (not (fixed (carried i n x).kind || fixed (carried i n y).kind) && not (above_limit (pair_length (carried i n x) (carried i n y)) i.options.limit))
  unfolding rules_of
  eligible-alone x y x-held y-held = by-rest i.options.limit (pairs-finite x y x-held y-held)
