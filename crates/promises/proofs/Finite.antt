-- Every coordinate of every point is finite and at most the bound in size: at the start, after each step of the walk, and in what comes out, removed
-- points included. The bound is the unit's, a power of two (`unit-power`); the walk's laws hold of any up to 2^126. Assumes nothing.
use Prim.Native.Nat.{ℕ, ◌+◌, ◌*◌, ◌≤◌, ◌<◌}
use native.Mathlib.Omega.{arith}
use mathlib.Core.Path.{◌≡◌, refl, ap, ◌∙◌}
use mathlib.Core.List.{List, [], ◌∷◌}
use mathlib.Core.Bool.{true, ◌&&◌}
use mathlib.Mathlib.Data.Bool.Basic.{and_elim_left, and_elim_right}
use lib.Ieee.{Float, nan, of_bits}
use Rattle.std.specs.Prelude.{Option}
use Rattle.units.specs.declared.Unit.{Unit}
use Rattle.units.specs.declared.Unit.TheVariants.{Millimetre, Micrometre}
use Rattle.units.specs.Units.{unit_number, unit_bound, unit_of}
use Rattle.units.proofs.UnitLaws.{unit-of-number}
use Rattle.lists.specs.Lists.{every}
use Rattle.lists.proofs.TestLaws.{by-test}
use Rattle.lists.proofs.EveryLaws.{every-at, every-default, every_set}
use Rattle.lists.proofs.BelowLaws.{every-below}
use Rattle.placement.specs.declared.pair.Vertex.{Vertex}
use Rattle.placement.specs.Pairs.{pair_place}
use Rattle.walk.specs.Faces.{Mesh, data_of, merged_of}
use Rattle.walk.specs.Fold.{folded_mesh}
use Rattle.walk.specs.Walk.{walk, State, StepAnswer, folded, closed, ended, answer, after, plain_machine, started}
use Rattle.walk.specs.Output.{used}
use Rattle.walk.proofs.MachineLaws.{walk-keeps}
use Rattle.std.specs.Prelude.{Ok, Err}
use Rattle.meaning.specs.declared.Task.TheVariants.{Copied, Admitted}
use Rattle.meaning.specs.Arithmetic.{merged_vertex, rules_of}
use Rattle.meaning.specs.Start.{start_mesh}
use Rattle.meaning.specs.Input.{Input, points_in, point_at, bound_in}
use Rattle.meaning.specs.Answers.{Verdict, verdict_of}
use Rattle.meaning.specs.declared.Options.{Options}
use Rattle.meaning.specs.Call.{Lent, input_of}
use Rattle.meaning.specs.Outcome.{rules_in, start_of, target_of, last_mesh, parts_in, outcome, outcome_by, stuck}
use Rattle.promises.specs.Steps.{state_at}
use Rattle.promises.specs.Finite.{small, small_point, small_vertex, SmallMesh, power}
use Rattle.promises.proofs.Bounded.{small-within, within-small, nought-most, place-within}
use Rattle.promises.proofs.Admitted.{checked, checked-small, passed}

-- a unit's bound is a power of two: 2^10 and 2^20
abbrev pub unit_power : Unit → ℕ
unit_power Millimetre = 10
unit_power Micrometre = 20

pub unit-power : (u : Unit) → unit_bound u ≡ power (unit_power u)
unfolding of_bits
unit-power Millimetre = refl
unit-power Micrometre = refl

pub unit-power-most : (u : Unit) → unit_power u ≤ 20
unit-power-most Millimetre = omega arith
unit-power-most Micrometre = omega arith

-- the power of an input's bound
abbrev pub power_within : Input → ℕ
power_within i = unit_power (unit_of i.options.unit)

pub power_in : (i : Input) → bound_in i ≡ power (power_within i)
power_in i = unit-power (unit_of i.options.unit)

pub power-most : (i : Input) → power_within i ≤ 20
power-most i = unit-power-most (unit_of i.options.unit)

-- ---- the walk

-- the rules with a bound that is a power of two
module _ (limit : Option Float) {bound : Float} (b : ℕ) (fits : b ≤ 126) (is-power : bound ≡ power b) where
  -- what no number names
  blank-small : small_vertex bound (rules_of limit bound).blank ≡ true
  unfolding rules_of
  blank-small = rw is-power (within-small b _ (record { x_most = nought-most; y_most = nought-most; z_most = nought-most }))

  -- what a point carries
  pub data-small : (m : Mesh Vertex) → SmallMesh bound m → (x : ℕ) → small_vertex bound (data_of (rules_of limit bound) m x) ≡ true
  data-small m all x = every-default (small_vertex bound) (rules_of limit bound).blank m.points all blank-small x

  -- what keep carries after a fold
  merged-small : (keep remove : Vertex) → small_vertex bound keep ≡ true → small_vertex bound remove ≡ true → small_vertex bound ((rules_of limit bound).merged keep remove) ≡ true
  unfolding rules_of merged_vertex pair_place
  merged-small keep remove h k =
      rw is-power
      (within-small b _
      (place-within b fits _ _ keep.point remove.point (small-within b keep.point (rw is-power at h)) (small-within b remove.point (rw is-power at k))))

  -- after an answer
  after_small : (s : State Vertex) (a : StepAnswer) → SmallMesh bound s.mesh → SmallMesh bound (after (rules_of limit bound) s a).mesh
  unfolding after folded_mesh
  after_small s (folded p) all =
      every_set (small_vertex bound) s.mesh.points p.keep (merged_of (rules_of limit bound) s.mesh p) all
      (merged-small _ _ (data-small s.mesh all p.keep) (data-small s.mesh all p.remove))
  after_small s (closed p reason) all = all
  after_small s ended all = all

  -- after any number of steps
  pub walk-small : (target n : ℕ) (s : State Vertex) → SmallMesh bound s.mesh → SmallMesh bound (walk (plain_machine (rules_of limit bound) target) n s).mesh
  walk-small target =
      walk-keeps (plain_machine (rules_of limit bound) target) (λ s. SmallMesh bound s.mesh) (λ s. after_small s (answer (rules_of limit bound) target s))

-- ---- the start

-- a point of an input whose coordinates 7 lets pass
pub point-small : (i : Input) → every (small (bound_in i)) i.points ≡ true → (x : ℕ) → x < points_in i → small_point (bound_in i) (point_at i.points x) ≡ true
point-small i all x inside =
    rw (
      every-at (small (bound_in i)) nan i.points all (3 * x) (omega arith),
      every-at (small (bound_in i)) nan i.points all (3 * x + 1) (omega arith),
      every-at (small (bound_in i)) nan i.points all (3 * x + 2) (omega arith),
    )

-- the start of such an input
start_small : (i : Input) → every (small (bound_in i)) i.points ≡ true → SmallMesh (bound_in i) (start_of i).mesh
unfolding start_of started start_mesh
start_small i all = every-below (small_vertex (bound_in i)) _ (points_in i) (point-small i all)

-- ---- from an input

module _ (i : Input) where
  -- f32 has the double of its bound
  power-fits : power_within i ≤ 126
  power-fits = omega (arith, power-most i)

  -- after any number of steps every coordinate of every point is finite and at most the bound in size
  pub walk-finite : verdict_of i ≡ Ok Admitted → (n : ℕ) → SmallMesh (bound_in i) (state_at i n).mesh
  walk-finite admitted n =
      walk-small i.options.limit (power_within i) power-fits (power_in i) (target_of i) n (start_of i) (start_small i (passed i admitted).coordinates_small)

  -- and so in the mesh at the end
  pub last-finite : verdict_of i ≡ Ok Admitted → SmallMesh (bound_in i) (last_mesh i)
  unfolding last_mesh
  last-finite admitted = walk-finite admitted _

  -- the parts of points of a mesh
  parts-small : (m : Mesh Vertex) → SmallMesh (bound_in i) m → (xs : List ℕ) → every (small (bound_in i)) (parts_in (rules_in i) m xs) ≡ true
  unfolding parts_in every
  parts-small m all [] = refl
  parts-small m all (x ∷ xs) =
      let v = data_of (rules_in i) m x in
      let three : small_vertex (bound_in i) v ≡ true = data-small i.options.limit (power_within i) power-fits (power_in i) m all x in
      let two = and_elim_left (small (bound_in i) v.point.x && small (bound_in i) v.point.y) (small (bound_in i) v.point.z) three in
      rw (
        and_elim_left (small (bound_in i) v.point.x) (small (bound_in i) v.point.y) two,
        and_elim_right (small (bound_in i) v.point.x) (small (bound_in i) v.point.y) two,
        and_elim_right (small (bound_in i) v.point.x && small (bound_in i) v.point.y) (small (bound_in i) v.point.z) three,
        parts-small m all xs,
      )

  -- and in what comes out, whatever the answer
  pub outcome-finite : every (small (bound_in i)) (outcome i).points ≡ true
  unfolding outcome outcome_by every
  outcome-finite = by-verdict (verdict_of i) refl
    where
      by-verdict : (w : Verdict) → verdict_of i ≡ w → every (small (bound_in i)) (outcome_by w i).points ≡ true
      by-verdict (Err why) e = refl
      by-verdict (Ok Copied) e = checked-small (checked i (Ok Copied) refl e)
      by-verdict (Ok Admitted) e =
          by-test (stuck i)
          (λ t. rw t)
          (λ t. rw t (parts-small (last_mesh i) (last-finite e) (used [] (last_mesh i).faces)))

-- so a call in a unit writes coordinates that are finite and at most that unit's bound in size
pub called-finite :
    (points : List Float) (faces margin : List ℕ) (options : Options) (b : Lent) (unit : Unit) → options.unit ≡ unit_number unit
    → every (small (unit_bound unit)) (outcome (input_of points faces margin options b)).points ≡ true
called-finite points faces margin options b unit e =
    let of_number : unit_of options.unit ≡ unit = ap unit_of e ∙ unit-of-number unit in
    rw of_number at (outcome-finite (input_of points faces margin options b))
