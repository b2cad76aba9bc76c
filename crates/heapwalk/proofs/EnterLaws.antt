-- Entries put in one after another: the eligible pairs of x with the points of a list.
-- Assumes nothing.
use Prim.Native.Nat.{ℕ, ◌+◌, ◌*◌, ◌≤◌, ◌<◌}
use native.Mathlib.Numerals.{add-one}
use native.Mathlib.Omega.{arith}
use mathlib.Core.Path.{◌≡◌, refl, sym, ap, subst, ◌∙◌}
use mathlib.Core.List.{List, [], ◌∷◌, ◌++◌, map, map-append}
use mathlib.Core.Bool.{Bool, true, false, cond}
use lib.Dec.{ltb}
use lib.Ieee.{Float}
use lib.ListN.{length, get_or, length-map, length-append}
use borrow.Author.Tests.{ltb-true, lt-ltb}
use Rattle.std.specs.Prelude.{Option}
use Rattle.geometry.specs.declared.Point.{Point}
use Rattle.placement.specs.declared.pair.Vertex.{Vertex}
use Rattle.placement.specs.Pairs.{pair_place, pair_cost}
use Rattle.walk.specs.Faces.{Mesh}
use Rattle.walk.specs.declared.Pair.{Pair}
use Rattle.lists.specs.Lists.{sum, those, every, below}
use Rattle.walk.specs.Pairs.{pair_of}
use Rattle.lists.proofs.EveryLaws.{every-head, every-cons, length-those, every-at, those-append}
use Rattle.lists.proofs.SumLaws.{sum-append, sum-map, sum-length}
use Rattle.lists.proofs.FrameLaws.{but-refl, but-then, but-widen, floats-refl, floats-then}
use Rattle.mesh.proofs.TidyLaws.{tidy-but}
use Rattle.lists.proofs.BelowLaws.{length-each, get_d-each, sum-partial}
use Rattle.memory.specs.Memory.{around_in}
use Rattle.openpairs.specs.Clauses.Waiting.{fits}
use Rattle.lists.proofs.BagLaws.{bag-map}
use Rattle.memory.specs.Points.{vertex_at, mesh_of}
use Rattle.queue.specs.State.{open_in}
use Rattle.memory.specs.declared.entries.Entry.{Entry}
use Rattle.queue.specs.Stored.{stamps_of, entries_in, Requeued}
use Rattle.queue.proofs.PresentLaws.{stamps-over}
use Rattle.queue.proofs.RequeuedLaws.{requeued-none, requeued-as, requeued-then}
use Rattle.queue.specs.Clauses.Queued.{Kept}
use Rattle.queue.specs.Clauses.Changes.{Pushed}
use Rattle.heapwalk.specs.Clauses.Entering.{Open, entries_for, Entered}
use Rattle.heapwalk.specs.Entries.{entry_for}
use Rattle.heapwalk.specs.Clauses.Listing.{pairs_with, Enterable, EnteredBeside}
use Rattle.heapwalk.specs.Clauses.Reading.{PointsListed}
use Rattle.heapwalk.proofs.QueueFrames.{fits-stays, mesh-stays}
use Rattle.heapwalk.proofs.EntryForLaws.{entries-current, entry-is}
use Rattle.memory.specs.Layout.{around_from}

-- ---- one change after another

pub entered-none : {v f : ℕ} {w : List ℕ} {p q : List Float} {n : ℕ} {limit : Option Float} {bound : Float} → Open v f w p q n bound →
    Entered v f w p q n limit bound [] w p q n
unfolding sum
entered-none {v} {f} {w} {p} {q} {n} held = record {
  enqueued = record {
    but = but-refl _ _ w;
    points_but = floats-refl _ _ p;
    quadrics_but = floats-refl _ _ q;
    queue = held.queue;
    sums = λ g. omega arith;
  };
  requeued = requeued-none (stamps_of v f w) (entries_in v f w p q n);
  «open» = held;
}

-- the entries of other pairs are those that they would have got before
entered-entries : {v f : ℕ} {w w' : List ℕ} {p p' q q' : List Float} {n n' : ℕ} {limit : Option Float} {bound : Float} {more : List Pair} →
    Entered v f w p q n limit bound more w' p' q' n' → (after : List Entry) (xs : List Pair) →
    Requeued (stamps_of v f w') (entries_in v f w' p' q' n') (entries_for v f w' p' q' limit bound xs) after →
    Requeued (stamps_of v f w) (entries_in v f w' p' q' n') (entries_for v f w p q limit bound xs) after
entered-entries {v} {f} {w} {w'} {p} {p'} {q} {q'} {n' = n'} {limit = limit} {bound = bound} one after xs two =
    let put = one.enqueued in
    subst (λ (stamps : List ℕ). Requeued stamps (entries_in v f w' p' q' n') (map (entry_for limit bound (mesh_of v f w p q) stamps) xs) after)
    (stamps-over v f put.but (omega arith))
    (subst (λ (m : Mesh Vertex). Requeued (stamps_of v f w') (entries_in v f w' p' q' n') (map (entry_for limit bound m (stamps_of v f w')) xs) after)
    (mesh-stays v f put.but (omega arith) put.points_but put.quadrics_but) two)

pub entered-then : {v f : ℕ} {w w' w'' : List ℕ} {p p' p'' q q' q'' : List Float} {n n' n'' : ℕ} {limit : Option Float} {bound : Float} {more more' : List Pair} →
    Entered v f w p q n limit bound more w' p' q' n' → Entered v f w' p' q' n' limit bound more' w'' p'' q'' n'' →
    Entered v f w p q n limit bound (more ++ more') w'' p'' q'' n''
entered-then {v} {f} {w} {w'' = w''} {p = p} {p'' = p''} {q = q} {q'' = q''} {n = n} {n'' = n''} {limit = limit} {bound = bound} {more = more} {more' = more'} one two =
    let first = one.enqueued in
    let second = two.enqueued in
    let entry = entry_for limit bound (mesh_of v f w p q) (stamps_of v f w) in
    record {
      enqueued = record {
        but = but-then first.but second.but;
        points_but = floats-then first.points_but second.points_but;
        quadrics_but = floats-then first.quadrics_but second.quadrics_but;
        queue = second.queue;
        sums = λ g. omega (arith, first.sums g, second.sums g, sum-append g more more');
      };
      requeued =
          subst (λ (new : List Entry). Requeued (stamps_of v f w) (entries_in v f w p q n) new (entries_in v f w'' p'' q'' n'')) (sym (map-append entry more more'))
          (requeued-then one.requeued (entered-entries one _ more' two.requeued) (entries-current limit bound (mesh_of v f w p q) (stamps_of v f w) more));
      «open» = two.«open»;
    }

-- the pairs may be listed in another order
pub entered-as : {v f : ℕ} {w w' : List ℕ} {p p' q q' : List Float} {n n' : ℕ} {limit : Option Float} {bound : Float} {more more' : List Pair} →
    ((g : Pair → ℕ) → sum g more ≡ sum g more') → Entered v f w p q n limit bound more w' p' q' n' → Entered v f w p q n limit bound more' w' p' q' n'
entered-as {v} {f} {w} {p = p} {q = q} {n = n} {limit = limit} {bound = bound} same one =
    let done = one.enqueued in
    record {
      enqueued = record {
        but = done.but;
        points_but = done.points_but;
        quadrics_but = done.quadrics_but;
        queue = done.queue;
        sums = λ g. done.sums g ∙ ap (λ (k : ℕ). sum g (open_in v f w n) + k) (same g);
      };
      requeued = requeued-as (bag-map (record { sums = same }) (entry_for limit bound (mesh_of v f w p q) (stamps_of v f w))) one.requeued;
      «open» = one.«open»;
    }

-- how many are open
pub entered-length : {v f : ℕ} {w w' : List ℕ} {p p' q q' : List Float} {n n' : ℕ} {limit : Option Float} {bound : Float} {more : List Pair} →
    Entered v f w p q n limit bound more w' p' q' n' → length (open_in v f w' n') ≡ length (open_in v f w n) + length more
entered-length {v} {f} {w} {w'} {n = n} {n' = n'} {more = more} one =
    omega (arith, one.enqueued.sums (λ r. 1), sum-length (open_in v f w' n'), sum-length (open_in v f w n), sum-length more)

-- ---- eligible pairs of x with the points of a list

module _ (v f : ℕ) (w : List ℕ) (p q : List Float) (limit : Option Float) (bound : Float) (x : ℕ) where
  -- with one point
  pub with-one : (y : ℕ) (b : Bool) → fits v f w p q limit bound x y ≡ b → pairs_with v f w p q limit bound x (y ∷ []) ≡ cond b (pair_of x y ∷ []) []
  unfolding those
  with-one y true e = rw e
  with-one y false e = rw e

  -- with the listed points, one more, and how many they are
  with-next : (i : ℕ) → pairs_with v f w p q limit bound x (around_in v f w (i + 1))
      ≡ pairs_with v f w p q limit bound x (around_in v f w i) ++ pairs_with v f w p q limit bound x (get_or w (around_from v f + i) 0 ∷ [])
  unfolding below
  with-next i =
      let at : ℕ → ℕ = λ i. get_or w (around_from v f + i) 0 in
      let test = fits v f w p q limit bound x in
      rw add-one
      (ap (λ (ys : List ℕ). map (pair_of x) (those test ys)) (map-append at (below i) (i ∷ []))
      ∙ ap (map (pair_of x)) (those-append test (map at (below i)) (at i ∷ []))
      ∙ map-append (pair_of x) (those test (map at (below i))) (those test (at i ∷ [])))

  with-length : (n : ℕ) → length (pairs_with v f w p q limit bound x (around_in v f w n))
      ≡ sum (λ i. cond (fits v f w p q limit bound x (get_or w (around_from v f + i) 0)) 1 0) (below n)
  with-length n =
      let at : ℕ → ℕ = λ i. get_or w (around_from v f + i) 0 in
      let test = fits v f w p q limit bound x in
      length-map (those test (map at (below n))) (pair_of x)
      ∙ length-those test (map at (below n))
      ∙ sum-map (λ y. cond (test y) 1 0) at (below n)

  -- with the first i + 1 there are no more than with all
  with-fewer : (i n : ℕ) → i < n →
      length (pairs_with v f w p q limit bound x (around_in v f w (i + 1))) ≤ length (pairs_with v f w p q limit bound x (around_in v f w n))
  with-fewer i n l = rw (with-length (i + 1), with-length n) (sum-partial _ (i + 1) n (omega arith))

-- none fails in no list
every-none : {A : Type 0} (test : A → Bool) → every test [] ≡ true
unfolding every
every-none test = refl

-- ---- one pair

module _ {v f : ℕ} {w : List ℕ} {p q : List Float} {n : ℕ} {limit : Option Float} {bound : Float} {x y : ℕ}
    (ready : Enterable v f w p q n limit bound x (y ∷ [])) where
  pub one-point : y < v
  one-point = ltb-true y v (every-head (λ y. ltb y v) y [] ready.points)

  pub one_place : fits v f w p q limit bound x y ≡ true → length (open_in v f w n) < 3 * f
  one_place e =
      let enough = ready.enough in
      omega (arith, rw (with-one v f w p q limit bound x y true e) at enough)

  pub entered-one : {cost : Float} {place : Point} {w' : List ℕ} {p' q' : List Float} {n' : ℕ} → fits v f w p q limit bound x y ≡ true →
      cost ≡ pair_cost bound (vertex_at v f w p q x) (vertex_at v f w p q y) → place ≡ pair_place bound (vertex_at v f w p q x) (vertex_at v f w p q y) →
      Pushed v f w p q n x y cost place w' p' q' n' → Kept v f w' p' q' n' bound → EnteredBeside v f w p q n limit bound (pairs_with v f w p q limit bound x (y ∷ [])) w' p' q' n'
  unfolding sum
  entered-one {w' = w'} {p' = p'} {q' = q'} {n' = n'} e cost-is place_is pushed kept =
      let done = pushed.only in
      let held = ready.«open» in
      record {
        entered = rw (with-one v f w p q limit bound x y true e) (record {
          enqueued = record {
            but = but-widen (omega arith) (omega arith) done.but;
            points_but = done.points_but;
            quadrics_but = done.quadrics_but;
            queue = pushed.queue;
            sums = λ g. omega (arith, pushed.sums g);
          };
          requeued =
              subst (λ (entry : Entry). Requeued (stamps_of v f w) (entries_in v f w p q n) (entry ∷ []) (entries_in v f w' p' q' n'))
              (entry-is v f w p q limit bound ready.point one-point cost-is place_is) pushed.requeued;
          «open» = record {
            tidy = tidy-but (omega arith) done.but held.tidy;
            queue = pushed.queue;
            kept = kept;
          };
        });
        lists-same = λ i l m. done.but.over i l;
      }

  pub entered-not : fits v f w p q limit bound x y ≡ false → EnteredBeside v f w p q n limit bound (pairs_with v f w p q limit bound x (y ∷ [])) w p q n
  entered-not e = record { entered = rw (with-one v f w p q limit bound x y false e) (entered-none ready.«open»); lists-same = λ i l m. refl }

-- ---- the listed points, one after another

module _ {v f : ℕ} {w₀ : List ℕ} {p₀ q₀ : List Float} {n₀ : ℕ} {limit : Option Float} {bound : Float} {x count : ℕ}
    (ready : Enterable v f w₀ p₀ q₀ n₀ limit bound x (around_in v f w₀ count)) (few : count ≤ v) where
  pub listed-none : EnteredBeside v f w₀ p₀ q₀ n₀ limit bound (pairs_with v f w₀ p₀ q₀ limit bound x (around_in v f w₀ 0)) w₀ p₀ q₀ n₀
  unfolding below those
  listed-none = record { entered = entered-none ready.«open»; lists-same = λ i l m. refl }

  -- the points that are listed are points still
  pub turn-listed : {w : List ℕ} {p q : List Float} {n : ℕ} {more : List Pair} → EnteredBeside v f w₀ p₀ q₀ n₀ limit bound more w p q n → PointsListed v f w count
  turn-listed so_far j l =
      let at : ℕ → ℕ = λ i. get_or w₀ (around_from v f + i) 0 in
      rw (so_far.lists-same (around_from v f + j) (omega arith) (omega arith))
      (ltb-true (at j) v
      (ap (λ (y : ℕ). ltb y v) (sym (get_d-each at count j 0 l)) ∙ every-at (λ y. ltb y v) 0 (around_in v f w₀ count) ready.points j (rw length-each l)))

  module _ {w : List ℕ} {p q : List Float} {n i : ℕ}
      (so_far : EnteredBeside v f w₀ p₀ q₀ n₀ limit bound (pairs_with v f w₀ p₀ q₀ limit bound x (around_in v f w₀ i)) w p q n) (inside : i < count) where
    -- the point is the one that was listed
    turn-point : get_or w (around_from v f + i) 0 ≡ get_or w₀ (around_from v f + i) 0
    turn-point = so_far.lists-same (around_from v f + i) (omega arith) (omega arith)

    turn_below : get_or w₀ (around_from v f + i) 0 < v
    turn_below = turn-listed listed-none i inside

    -- it is eligible with x where it was
    turn-same : (y : ℕ) → y < v → pairs_with v f w p q limit bound x (y ∷ []) ≡ pairs_with v f w₀ p₀ q₀ limit bound x (y ∷ [])
    turn-same y l =
        let done = so_far.entered.enqueued in
        let fitting = fits-stays v f done.but (omega arith) done.points_but done.quadrics_but limit bound x y ready.point l in
        with-one v f w p q limit bound x y _ fitting ∙ sym (with-one v f w₀ p₀ q₀ limit bound x y _ refl)

    module _ {y : ℕ} (read : y ≡ get_or w (around_from v f + i) 0) where
      turn-with : pairs_with v f w p q limit bound x (y ∷ []) ≡ pairs_with v f w₀ p₀ q₀ limit bound x (get_or w₀ (around_from v f + i) 0 ∷ [])
      turn-with =
          ap (λ (y : ℕ). pairs_with v f w p q limit bound x (y ∷ [])) (read ∙ turn-point) ∙ turn-same (get_or w₀ (around_from v f + i) 0) turn_below

      pub turn-ready : Enterable v f w p q n limit bound x (y ∷ [])
      turn-ready = record {
        «open» = so_far.entered.«open»;
        point = ready.point;
        points = every-cons (λ y. ltb y v) y [] (lt-ltb y v (omega (arith, read, turn-point, turn_below))) (every-none (λ y. ltb y v));
        enough = omega (
          arith,
          ready.enough,
          entered-length so_far.entered,
          ap length turn-with,
          with-fewer v f w₀ p₀ q₀ limit bound x i count inside,
          ap length (with-next v f w₀ p₀ q₀ limit bound x i)
              ∙ length-append (pairs_with v f w₀ p₀ q₀ limit bound x (around_in v f w₀ i)) _,
        );
      }

      pub turn-done : {w' : List ℕ} {p' q' : List Float} {n' : ℕ} →
          EnteredBeside v f w p q n limit bound (pairs_with v f w p q limit bound x (y ∷ [])) w' p' q' n' →
          EnteredBeside v f w₀ p₀ q₀ n₀ limit bound (pairs_with v f w₀ p₀ q₀ limit bound x (around_in v f w₀ (i + 1))) w' p' q' n'
      turn-done turn = record {
        entered = rw (with-next v f w₀ p₀ q₀ limit bound x i) (entered-then so_far.entered (rw turn-with at turn.entered));
        lists-same = λ j l m. turn.lists-same j l m ∙ so_far.lists-same j l m;
      }
