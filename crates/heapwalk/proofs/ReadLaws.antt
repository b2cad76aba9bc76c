-- The quadrics of listed points, read a part at a time: the turns of reading a part, and what is at hand as the points are opened.
-- Assumes nothing.
use Prim.Native.Nat.{ℕ, ◌+◌, ◌*◌, ◌-◌, ◌%◌, ◌≤◌, ◌<◌}
use native.Mathlib.Omega.{arith}
use mathlib.Core.Path.{◌≡◌, refl, sym, ap, ◌∙◌}
use mathlib.Core.Logic.{◌≢◌}
use mathlib.Core.List.{List}
use lib.ListN.{length, get_or}
use lib.Ieee.{Float}
use Rattle.std.specs.Prelude.{Option}
use Rattle.geometry.specs.declared.Quadric.{Quadric}
use Rattle.walk.specs.declared.Pair.{Pair}
use Rattle.memory.specs.Points.{quadric_at, with_quadric}
use Rattle.memory.specs.Layout.{around_from}
use Rattle.memory.proofs.PointLaws.{Stored, quadric-same, quadric-stored}
use Rattle.queue.proofs.HeapLaws.{by-same}
use Rattle.heapwalk.specs.Clauses.Listing.{EnteredBeside}
use Rattle.heapwalk.specs.Clauses.Reading.{part_of, PointsListed, PartRead, ReadAt, ReadBefore}

-- a part is no longer than eight, nor than what is left
part_small : (left : ℕ) → (part_of left ≤ 8) × (part_of left ≤ left) × ((m : ℕ) → m < 8 → m < left → m < part_of left)
part_small left = (omega arith, omega arith, λ m a b. omega arith)

-- ---- a part, quadric by quadric

pub reading-none : {v f : ℕ} {w : List ℕ} {q : List Float} {from : ℕ} {near : List Float} → PartRead v f w q from 0 near near
reading-none = record { same_length = refl; read = λ j l. absurd (omega arith) }

pub reading-next : {v f : ℕ} {w : List ℕ} {q : List Float} {from j y : ℕ} {near₀ near near' : List Float} {b : Quadric} → PartRead v f w q from j near₀ near →
    10 * j + 10 ≤ length near₀ → y ≡ get_or w (around_from v f + (from + j)) 0 → b ≡ quadric_at q y → near' ≡ with_quadric near j b → PartRead v f w q from (j + 1) near₀ near'
reading-next {q = q} {j = j} {near = near} {near' = near'} {b = b} before room point quadric same =
    let stored : Stored 10 quadric_at near j b near' = rw same (quadric-stored near j b) in
    record {
      same_length = stored.same_length ∙ before.same_length;
      read = λ k l.
          by-same k j
          (λ e. rw e (stored.back (omega (arith, before.same_length)) ∙ quadric ∙ ap (quadric_at q) point))
          (λ other. stored.other k other ∙ before.read k (omega arith));
    }

-- ---- what is at hand

module _ {v f : ℕ} {w : List ℕ} {q : List Float} {count i : ℕ} {near : List Float} (before : ReadBefore v f w q count i near) where
  -- a part begins, and is read
  pub part-begins : {near' : List Float} → i % 8 ≡ 0 → i < count → PartRead v f w q i (part_of (count - i)) near near' → ReadAt v f w q count i near'
  part-begins {near'} begins inside part = record {
    long = part.same_length ∙ before.long;
    read = λ j least most same.
        let here : i + j % 8 ≡ j = omega arith in
        let within = (part_small (count - i)).2 (j % 8) (omega arith) (omega arith) in
        part.read (j % 8) within ∙ ap (λ (k : ℕ). quadric_at q (get_or w (around_from v f + k) 0)) here;
  }

  -- there is room for it
  pub part_room : 10 * part_of (count - i) ≤ length near
  part_room = omega (arith, (part_small (count - i)).0, before.long)

  -- it goes on
  pub part-goes-on : i % 8 ≢ 0 → ReadAt v f w q count i near
  part-goes-on inside = before.read inside

pub part-inside : {count i : ℕ} → i < count → i + part_of (count - i) ≤ count
part-inside {count} {i} inside = omega (arith, (part_small (count - i)).1)

-- a point has been opened, and the next one's quadric is as it was
pub read_next : {v f : ℕ} {w w' : List ℕ} {p p' q q' : List Float} {n n' : ℕ} {limit : Option Float} {bound : Float} {more : List Pair} {count i : ℕ} {near : List Float} →
    count ≤ v → PointsListed v f w count → ReadAt v f w q count i near → EnteredBeside v f w p q n limit bound more w' p' q' n' → ReadBefore v f w' q' count (i + 1) near
read_next {v} {f} {w} {w'} {q = q} {q'} {count = count} {i} {near} few listed at-hand beside = record {
  long = at-hand.long;
  read = λ inside. record {
    long = at-hand.long;
    read = λ j least most same.
        let listed_same : get_or w' (around_from v f + j) 0 ≡ get_or w (around_from v f + j) 0 = beside.lists-same (around_from v f + j) (omega arith) (omega arith) in
        let y = get_or w (around_from v f + j) 0 in
        let below = listed j most in
        let stays = quadric-same q' q y y (λ k l. beside.entered.enqueued.quadrics_but.under (10 * y + k) (omega arith)) in
        at-hand.read j (omega arith) most (omega arith) ∙ sym (ap (quadric_at q') listed_same ∙ stays);
  };
}
