-- The start, point after point: what is opened from the points passed, and that there is room for it.
-- Assumes nothing.
use Prim.Native.Nat.{ℕ, suc, ◌+◌, ◌*◌, ◌≤◌, ◌<◌}
use native.Mathlib.Nat.{zero-add}
use native.Mathlib.Numerals.{add-one}
use native.Mathlib.Omega.{arith}
use mathlib.Core.Path.{◌≡◌, sym, ap, ap₂, ◌∙◌}
use mathlib.Core.List.{List}
use mathlib.Core.Bool.{true}
use lib.ListN.{length}
use lib.Ieee.{Float}
use Rattle.std.specs.Prelude.{Option}
use Rattle.placement.specs.declared.pair.Vertex.{Vertex}
use Rattle.walk.specs.declared.Pair.{Pair}
use Rattle.lists.specs.Lists.{sum, every, below}
use Rattle.walk.specs.Faces.{proper, Rules, Mesh}
use Rattle.walk.specs.Pairs.{pair_of}
use Rattle.walk.specs.Walk.{started}
use Rattle.lists.proofs.SumLaws.{sum-map, sum-those, sum_same, sum-length}
use Rattle.lists.proofs.BelowLaws.{sum_below, sum-partial}
use Rattle.walk.proofs.OpenSums.{started-sum}
use Rattle.walk.proofs.SoundLaws.{started-sound}
use Rattle.walk.proofs.StepLaws.{open-bound}
use Rattle.lists.specs.Frames.{But}
use Rattle.mesh.specs.Clauses.Chains.{Tidy}
use Rattle.memory.specs.Points.{mesh_of}
use Rattle.meaning.specs.Arithmetic.{rules_of}
use Rattle.openpairs.specs.State.{open_pairs}
use Rattle.openpairs.specs.Clauses.Changes.{Added}
use Rattle.openpairs.proofs.OpenLaws.{open_none, open-length}
use Rattle.openpairs.specs.Clauses.Edges.{rising_from}
use Rattle.lists.proofs.FrameLaws.{but-refl, but-then}
use Rattle.memory.proofs.MeshLaws.{mesh-but, mesh-length}
use Rattle.memory.specs.Layout.{keeps_from, folds_from}
use Rattle.mesh.proofs.AroundLaws.{live-few, live-proper}

-- the start opens at most three pairs for each slot
pub started-few : {v f : ℕ} {w : List ℕ} → Tidy v f w → (p q : List Float) (rules : Rules Vertex) →
    length (started rules (mesh_of v f w p q)).«open» ≤ 3 * f
unfolding started mesh_of
started-few {v} {f} {w} tidy p q rules =
    let m = mesh_of v f w p q in
    let good : every (proper (length m.points)) m.faces ≡ true = rw (mesh-length v f w p q) (live-proper v f w tidy.faces_proper) in
    omega (arith, open-bound (started rules m) (started-sound rules m good), live-few f w)

-- ---- point after point

-- what the start opens
pub rising-sum : {D : Type 0} (rules : Rules D) (m : Mesh D) (g : Pair → ℕ) →
    sum (λ x. sum g (rising_from rules m x)) (below (length m.points)) ≡ sum g (started rules m).«open»
unfolding rising_from
rising-sum rules m g =
    sum_same _ _ (λ x. sum-map g (pair_of x) _ ∙ sum-those (λ y. g (pair_of x y)) _ (below (length m.points))) (below (length m.points))
    ∙ sym (started-sum rules m g)

-- the pairs of the points below x are open
pub record Starting (v f : ℕ) (w₀ : List ℕ) (p q : List Float) (limit : Option Float) (bound : Float) (w : List ℕ) (n x : ℕ) : Type 0 where
  pub but : But (keeps_from v f) (folds_from v f) w₀ w
  pub sums : (g : Pair → ℕ) → sum g (open_pairs v f w n) ≡ sum (λ y. sum g (rising_from (rules_of limit bound) (mesh_of v f w₀ p q) y)) (below x)

module _ {v f : ℕ} {w₀ : List ℕ} {p q : List Float} {limit : Option Float} {bound : Float} where
  pub starting-none : Starting v f w₀ p q limit bound w₀ 0 0
  unfolding sum below
  starting-none = record { but = but-refl _ _ w₀; sums = λ g. rw (open_none v f w₀) }

  module _ {w : List ℕ} {n x : ℕ} (before : Starting v f w₀ p q limit bound w n x) where
    -- the mesh is as it was
    same-rising : rising_from (rules_of limit bound) (mesh_of v f w p q) x ≡ rising_from (rules_of limit bound) (mesh_of v f w₀ p q) x
    same-rising = rw (mesh-but v f p q before.but (omega arith))

    -- there is room for the next point's
    pub starting-room : Tidy v f w₀ → x < v → n + length (rising_from (rules_of limit bound) (mesh_of v f w p q) x) ≤ 3 * f
    starting-room tidy x-in =
        let rules = rules_of limit bound in
        let m = mesh_of v f w₀ p q in
        let each : ℕ → ℕ = λ y. sum (λ r. 1) (rising_from rules m y) in
        let now-open : n ≡ sum each (below x) = sym (open-length v f w n) ∙ sym (sum-length (open_pairs v f w n)) ∙ before.sums (λ r. 1) in
        let all-open : sum each (below v) ≡ sum (λ r. 1) (started rules m).«open» =
        ap (λ (k : ℕ). sum each (below k)) (sym (mesh-length v f w₀ p q)) ∙ rising-sum rules m (λ r. 1) in
        rw same-rising
        (omega (
          arith,
          now-open,
          sum-length (rising_from rules m x),
          sum_below each x,
          sum-partial each (suc x) v x-in,
          all-open,
          sum-length (started rules m).«open»,
          started-few tidy p q rules,
        ))

    pub starting-next : {w' : List ℕ} {n' : ℕ} → Added v f w n (rising_from (rules_of limit bound) (mesh_of v f w p q) x) w' n' →
        Starting v f w₀ p q limit bound w' n' (x + 1)
    starting-next added =
        record {
          but = but-then before.but added.but;
          sums = λ g. rw add-one
              (added.sums g
              ∙ ap₂ ◌+◌ (before.sums g) (ap (λ (ps : List Pair). sum g ps) same-rising)
              ∙ sym (sum_below (λ y. sum g (rising_from (rules_of limit bound) (mesh_of v f w₀ p q) y)) x));
        }

  -- all of them
  pub starting-all : {w : List ℕ} {n x : ℕ} → x ≡ v → Starting v f w₀ p q limit bound w n x →
      Added v f w₀ 0 (started (rules_of limit bound) (mesh_of v f w₀ p q)).«open» w n
  unfolding sum
  starting-all {w} {n} {x} e end =
      record {
        but = end.but;
        sums = λ g.
            end.sums g
            ∙ ap (λ (k : ℕ). sum (λ y. sum g (rising_from (rules_of limit bound) (mesh_of v f w₀ p q) y)) (below k)) (e ∙ sym (mesh-length v f w₀ p q))
            ∙ rising-sum (rules_of limit bound) (mesh_of v f w₀ p q) g
            ∙ rw (open_none v f w₀) (sym (zero-add _));
      }
