-- The points around x: those of them that are eligible with it are the pairs that are to be opened.
-- Assumes nothing.
use Prim.Native.Nat.{ℕ, ◌+◌, ◌*◌, ◌≤◌, ◌<◌}
use native.Mathlib.Omega.{arith}
use mathlib.Core.Path.{◌≡◌, sym, ap, ap₂, ◌∙◌}
use mathlib.Core.List.{List}
use mathlib.Core.Bool.{Bool, true, ◌&&◌, cond}
use lib.Dec.{ltb}
use lib.Ieee.{Float}
use lib.ListN.{length, get_or}
use borrow.Author.Tests.{lt-ltb}
use Rattle.std.specs.Prelude.{Option}
use Rattle.walk.specs.declared.Pair.{Pair}
use Rattle.lists.specs.Lists.{sum, those, every, below}
use Rattle.walk.specs.Pairs.{pair_of, eligible_pair}
use Rattle.lists.proofs.TestLaws.{by-test}
use Rattle.lists.proofs.SumLaws.{sum-map, sum-those, sum-length}
use Rattle.memory.specs.Memory.{live_faces, around_in}
use Rattle.lists.proofs.FrameLaws.{but-then, but-widen, floats-refl}
use Rattle.lists.proofs.BelowLaws.{sum-none, count-below-most, sum-same-below, length-each}
use Rattle.lists.proofs.EveryLaws.{every-counted}
use Rattle.memory.specs.Points.{mesh_of}
use Rattle.meaning.specs.Arithmetic.{rules_of}
use Rattle.ring.specs.declared.Neighbours.{Neighbours}
use Rattle.ring.specs.Clauses.Listing.{is_around, AroundListed}
use Rattle.openpairs.specs.Clauses.Edges.{opened_around}
use Rattle.openpairs.specs.Clauses.Waiting.{fits}
use Rattle.openpairs.proofs.AddLaws.{around-sum, fits-mesh}
use Rattle.lists.proofs.BagLaws.{bag-map}
use Rattle.queue.specs.State.{open_in}
use Rattle.memory.specs.declared.entries.Entry.{Entry}
use Rattle.queue.specs.Stored.{stamps_of, entries_in, Requeued}
use Rattle.queue.proofs.PresentLaws.{stamps-same}
use Rattle.queue.proofs.RequeuedLaws.{requeued-as}
use Rattle.heapwalk.specs.Entries.{entry_for}
use Rattle.heapwalk.specs.Clauses.Entering.{Open, entries_for, Entered}
use Rattle.heapwalk.specs.Clauses.Listing.{pairs_with, Enterable, EnteredBeside}
use Rattle.heapwalk.proofs.QueueFrames.{fits-stays, open-past, held-past, entries-past}
use Rattle.memory.specs.Layout.{around_from, stamps_from}
use Rattle.lists.proofs.CondLaws.{cond-and}
use Rattle.memory.proofs.MeshLaws.{mesh-length, mesh-but}

module _ {v f : ℕ} {w w₁ : List ℕ} {p q : List Float} {n : ℕ} {which : Neighbours} {x count : ℕ} {bound : Float}
    (held : Open v f w p q n bound) (x-in : x < v) (around : AroundListed v f w which x w₁ count) where
  -- they are at most v, and each is below v
  pub around-few : count ≤ v
  around-few =
      let test = is_around which (live_faces f w) x in
      omega (
        arith,
        length-each (λ i. get_or w₁ (around_from v f + i) 0) count,
        sum-length (around_in v f w₁ count),
        around.sums (λ y. 1),
        sum-those (λ y. 1) test (below v),
        count-below-most test v,
      )

  around-points : every (λ y. ltb y v) (around_in v f w₁ count) ≡ true
  around-points =
      let test = is_around which (live_faces f w) x in
      every-counted (λ y. ltb y v) (around_in v f w₁ count)
      (around.sums (λ y. cond (ltb y v) 0 1)
      ∙ sum-those (λ y. cond (ltb y v) 0 1) test (below v)
      ∙ sum-none _ v (λ y l. rw (lt-ltb y v l) (by-test (test y) (λ e. rw e) (λ e. rw e))))

  -- those of them that are eligible are the pairs that are to be opened
  pub around-opened : (limit : Option Float) (g : Pair → ℕ) →
      sum g (pairs_with v f w₁ p q limit bound x (around_in v f w₁ count)) ≡ sum g (opened_around (rules_of limit bound) (mesh_of v f w p q) which x)
  unfolding mesh_of
  around-opened limit g =
      let rules = rules_of limit bound in
      let m = mesh_of v f w p q in
      let test = is_around which (live_faces f w) x in
      let weight : ℕ → ℕ = λ y. cond (fits v f w₁ p q limit bound x y) (g (pair_of x y)) 0 in
      let same = fits-stays v f around.but (omega arith) (floats-refl (3 * v) 0 p) (floats-refl (10 * v) 0 q) limit bound x in
      let fitting : (y : ℕ) → y < v → fits v f w₁ p q limit bound x y ≡ eligible_pair rules m (pair_of x y) =
      λ y l. same y x-in l ∙ fits-mesh v f w p q limit bound x y x-in l in
      sum-map g (pair_of x) (those (fits v f w₁ p q limit bound x) (around_in v f w₁ count))
      ∙ sum-those (λ y. g (pair_of x y)) (fits v f w₁ p q limit bound x) (around_in v f w₁ count)
      ∙ around.sums weight
      ∙ sum-those weight test (below v)
      ∙ sum-same-below _ (λ y. cond (test y && eligible_pair rules m (pair_of x y)) (g (pair_of x y)) 0) v
      (λ y l. sym (cond-and (test y) _ (g (pair_of x y))) ∙ ap (λ (b : Bool). cond (test y && b) (g (pair_of x y)) 0) (fitting y l))
      ∙ ap (λ (k : ℕ). sum (λ y. cond (test y && eligible_pair rules m (pair_of x y)) (g (pair_of x y)) 0) (below k)) (sym (mesh-length v f w p q))
      ∙ sym (around-sum rules m which x g)

  pub around-ready : (limit : Option Float) → length (open_in v f w n) + length (opened_around (rules_of limit bound) (mesh_of v f w p q) which x) ≤ 3 * f →
      Enterable v f w₁ p q n limit bound x (around_in v f w₁ count)
  around-ready limit enough = record {
    «open» = held-past around.but (omega arith) held;
    point = x-in;
    points = around-points;
    enough = omega (
      arith,
      enough,
      ap length (open-past around.but (omega arith) held),
      around-opened limit (λ r. 1),
      sum-length (pairs_with v f w₁ p q limit bound x (around_in v f w₁ count)),
      sum-length (opened_around (rules_of limit bound) (mesh_of v f w p q) which x),
    );
  }

  -- entries put in once the points are listed are put in from where they were not
  around-entries : (limit : Option Float) {after : List Entry} →
      Requeued (stamps_of v f w₁) (entries_in v f w₁ p q n) (entries_for v f w₁ p q limit bound (pairs_with v f w₁ p q limit bound x (around_in v f w₁ count))) after →
      Requeued (stamps_of v f w) (entries_in v f w p q n) (entries_for v f w p q limit bound (opened_around (rules_of limit bound) (mesh_of v f w p q) which x)) after
  around-entries limit {after} put =
      let same-stamps = stamps-same v f w w₁ (λ y l. around.but.under (stamps_from v f + y) (omega arith)) in
      let same_mesh = mesh-but v f p q around.but (omega arith) in
      requeued-as (bag-map (record { sums = around-opened limit }) (entry_for limit bound (mesh_of v f w p q) (stamps_of v f w)))
      (rw (same-stamps, same_mesh, entries-past around.but (omega arith) held) at put)

  pub around-entered : (limit : Option Float) {w' : List ℕ} {p' q' : List Float} {n' : ℕ} →
      EnteredBeside v f w₁ p q n limit bound (pairs_with v f w₁ p q limit bound x (around_in v f w₁ count)) w' p' q' n' →
      Entered v f w p q n limit bound (opened_around (rules_of limit bound) (mesh_of v f w p q) which x) w' p' q' n'
  around-entered limit done =
      let put = done.entered.enqueued in
      record {
        enqueued = record {
          but = but-then (but-widen (omega arith) (omega arith) around.but) put.but;
          points_but = put.points_but;
          quadrics_but = put.quadrics_but;
          queue = put.queue;
          sums = λ g.
              put.sums g
              ∙ ap₂ ◌+◌ (ap (λ (ps : List Pair). sum g ps) (open-past around.but (omega arith) held)) (around-opened limit g);
        };
        requeued = around-entries limit done.entered.requeued;
        «open» = done.entered.«open»;
      }
