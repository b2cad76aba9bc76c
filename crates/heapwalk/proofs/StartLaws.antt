-- The start, point after point: what is entered from the points passed, and that there is room for it.
-- Assumes nothing.
use Prim.Native.Nat.{ℕ, suc, ◌+◌, ◌*◌, ◌≤◌, ◌<◌}
use native.Mathlib.Nat.{zero-add}
use native.Mathlib.Numerals.{add-one}
use native.Mathlib.Omega.{arith}
use mathlib.Core.Path.{◌≡◌, refl, sym, ap, ap₂, ◌∙◌}
use mathlib.Core.List.{List, [], flat_map}
use lib.Ieee.{Float}
use lib.ListN.{length}
use Rattle.std.specs.Prelude.{Option}
use Rattle.placement.specs.declared.pair.Vertex.{Vertex}
use Rattle.walk.specs.declared.Pair.{Pair}
use Rattle.lists.specs.Lists.{sum, those, below}
use Rattle.walk.specs.Faces.{Mesh}
use Rattle.walk.specs.Walk.{started}
use Rattle.lists.proofs.SumLaws.{sum-append, sum-flat_map, sum-length}
use Rattle.lists.proofs.BelowLaws.{sum_below, sum-partial}
use Rattle.mesh.specs.Clauses.Chains.{Tidy}
use Rattle.lists.proofs.FrameLaws.{but-then, but-widen}
use Rattle.mesh.proofs.TidyLaws.{tidy-but}
use Rattle.memory.specs.Points.{mesh_of}
use Rattle.meaning.specs.Arithmetic.{rules_of}
use Rattle.openpairs.specs.Clauses.Edges.{rising_from}
use Rattle.memory.proofs.MeshLaws.{mesh-but, mesh-length}
use Rattle.openpairs.proofs.StartLaws.{started-few, rising-sum}
use Rattle.lists.specs.Lists.{SameBag}
use Rattle.lists.proofs.BagLaws.{bag-trans, bag-map}
use Rattle.queue.specs.State.{open_in}
use Rattle.queue.specs.Stored.{stamps_of, entries_in}
use Rattle.queue.proofs.PresentLaws.{stamps-over}
use Rattle.queue.proofs.RequeuedLaws.{requeued-all}
use Rattle.heapwalk.specs.Entries.{entry_for}
use Rattle.queue.specs.Clauses.Changes.{Emptied}
use Rattle.heapwalk.specs.Clauses.Entering.{Open, entries_for, Entered, Started}
use Rattle.heapwalk.proofs.QueueFrames.{mesh-stays}
use Rattle.heapwalk.proofs.EnterLaws.{entered-none, entered-then, entered-as, entered-length}
use Rattle.memory.specs.Layout.{stamps_from}

-- no entry, no open pair
pub open_none : (v f : ℕ) (w : List ℕ) → open_in v f w 0 ≡ []
unfolding open_in below those
open_none v f w = refl

-- nor an entry
entries_none : (v f : ℕ) (w : List ℕ) (p q : List Float) → entries_in v f w p q 0 ≡ []
unfolding entries_in below
entries_none v f w p q = refl

-- the pairs that the start opens from the points below x on
abbrev pub rising_below : (v f : ℕ) (w : List ℕ) (p q : List Float) (limit : Option Float) (bound : Float) → ℕ → List Pair
rising_below v f w p q limit bound x = flat_map (rising_from (rules_of limit bound) (mesh_of v f w p q)) (below x)

module _ {v f : ℕ} {w w₀ : List ℕ} {p q : List Float} (tidy : Tidy v f w) (emptied : Emptied v f w p q w₀)
    (limit : Option Float) (bound : Float) where
  -- an empty queue knows all that it should
  emptied-open : Open v f w₀ p q 0 bound
  emptied-open = record {
    tidy = tidy-but (omega arith) emptied.but tidy;
    queue = emptied.queue;
    kept = λ i l. absurd (omega arith);
  }

  pub starting-none : Entered v f w₀ p q 0 limit bound (rising_below v f w₀ p q limit bound 0) w₀ p q 0
  unfolding below flat_map
  starting-none = entered-none emptied-open

  module _ (x : ℕ) {w' : List ℕ} {p' q' : List Float} {n : ℕ}
      (done : Entered v f w₀ p q 0 limit bound (rising_below v f w₀ p q limit bound x) w' p' q' n) where
    -- the mesh is as it was
    same_mesh : mesh_of v f w' p' q' ≡ mesh_of v f w₀ p q
    same_mesh = let put = done.enqueued in mesh-stays v f put.but (omega arith) put.points_but put.quadrics_but

    -- there is room for the next point's
    pub starting-room : x < v → length (open_in v f w' n) + length (rising_from (rules_of limit bound) (mesh_of v f w' p' q') x) ≤ 3 * f
    starting-room x-in =
        let rules = rules_of limit bound in
        let m = mesh_of v f w₀ p q in
        let each : ℕ → ℕ = λ y. sum (λ r. 1) (rising_from rules m y) in
        let all-open : sum each (below v) ≡ sum (λ r. 1) (started rules m).«open» =
        ap (λ (k : ℕ). sum each (below k)) (sym (mesh-length v f w₀ p q)) ∙ rising-sum rules m (λ r. 1) in
        rw same_mesh
        (omega (
          arith,
          entered-length done,
          ap length (open_none v f w₀),
          sum-length (rising_below v f w₀ p q limit bound x),
          sum-flat_map (λ r. 1) (rising_from rules m) (below x),
          sum-length (rising_from rules m x),
          sum_below each x,
          sum-partial each (suc x) v x-in,
          all-open,
          sum-length (started rules m).«open»,
          started-few emptied-open.tidy p q rules,
        ))

    pub starting-next : {w'' : List ℕ} {p'' q'' : List Float} {n' : ℕ} →
        Entered v f w' p' q' n limit bound (rising_from (rules_of limit bound) (mesh_of v f w' p' q') x) w'' p'' q'' n' →
        Entered v f w₀ p q 0 limit bound (rising_below v f w₀ p q limit bound (x + 1)) w'' p'' q'' n'
    starting-next turn =
        let from = rising_from (rules_of limit bound) (mesh_of v f w₀ p q) in
        entered-as
        (λ g.
        sum-append g (flat_map from (below x)) (from x)
        ∙ ap (λ (k : ℕ). k + sum g (from x)) (sum-flat_map g from (below x))
        ∙ sym (sum_below (λ y. sum g (from y)) x)
        ∙ sym (rw add-one (sum-flat_map g from (below (suc x)))))
        (entered-then done (rw same_mesh at turn))

    -- the pairs that were opened are those of the start
    start-pairs : x ≡ v → (g : Pair → ℕ) → sum g (rising_below v f w₀ p q limit bound x) ≡ sum g (started (rules_of limit bound) (mesh_of v f w p q)).«open»
    start-pairs e g =
        let rules = rules_of limit bound in
        let m = mesh_of v f w₀ p q in
        let from = rising_from rules m in
        sum-flat_map g from (below x)
        ∙ ap (λ (k : ℕ). sum (λ y. sum g (from y)) (below k)) (e ∙ sym (mesh-length v f w₀ p q))
        ∙ rising-sum rules m g
        ∙ ap (λ (m : Mesh Vertex). sum g (started rules m).«open») (mesh-but v f p q emptied.but (omega arith))

    -- and so are the entries
    start-entries : x ≡ v → SameBag (entries_in v f w' p' q' n) (entries_for v f w' p' q' limit bound (started (rules_of limit bound) (mesh_of v f w p q)).«open»)
    start-entries e =
        let put = done.enqueued in
        let entry = entry_for limit bound (mesh_of v f w₀ p q) (stamps_of v f w₀) in
        rw (same_mesh, stamps-over v f put.but (omega arith))
        (bag-trans (requeued-all (entries_none v f w₀ p q) done.requeued) (bag-map (record { sums = start-pairs e }) entry))

    -- all of them
    pub starting-all : x ≡ v → Started v f w p q limit bound (started (rules_of limit bound) (mesh_of v f w p q)).«open» w' p' q' n
    unfolding sum
    starting-all e =
        let put = done.enqueued in
        record {
          but = but-then (but-widen (omega arith) (omega arith) emptied.but) (but-widen (omega arith) (omega arith) put.but);
          points_but = put.points_but;
          quadrics_but = put.quadrics_but;
          «open» = done.«open»;
          stamps = λ y l. put.but.under (stamps_from v f + y) (omega arith) ∙ emptied.stamps y l;
          entries = start-entries e;
          sums = λ g. put.sums g ∙ ap₂ ◌+◌ (ap (λ (ps : List Pair). sum g ps) (open_none v f w₀)) (start-pairs e g) ∙ zero-add _;
        }
