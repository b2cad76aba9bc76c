-- What the queue hangs on. Where the entries stay, and some points are touched, so that their stamps grow by one and what they carry changes, an entry of a
-- touched point is old after that, and every other entry is as it was.
-- Assumes nothing.
use Prim.Native.Nat.{ℕ, ◌+◌, ◌*◌, ◌≤◌, ◌<◌}
use native.Mathlib.Nat.{add-zero}
use native.Mathlib.Omega.{arith}
use mathlib.Core.Path.{◌≡◌, refl, sym, ap, ap₂, subst, ◌∙◌}
use mathlib.Core.List.{List}
use mathlib.Core.Bool.{Bool, true, false, ◌&&◌, cond}
use mathlib.Mathlib.Data.Bool.Basic.{and_elim_left, and_elim_right}
use lib.Dec.{ltb, eqb}
use lib.Ieee.{Float}
use lib.ListN.{length}
use borrow.Author.Tests.{not-true, ltb-true}
use Rattle.walk.specs.Pairs.{pair_of}
use Rattle.walk.proofs.PairLaws.{spared}
use Rattle.placement.specs.Pairs.{pair_place, pair_cost}
use Rattle.lists.specs.Lists.{those, below}
use Rattle.lists.specs.Frames.{But}
use Rattle.lists.proofs.BelowLaws.{all-below}
use Rattle.lists.proofs.TestLaws.{neither-of, still-equal, both-still}
use Rattle.lists.proofs.EveryLaws.{kept-those, those-all}
use Rattle.memory.specs.declared.entries.Entry.{Entry}
use Rattle.memory.specs.Points.{vertex_at, mesh_of}
use Rattle.memory.specs.Entries.{entry_pair, entry_in, stamp}
use Rattle.memory.specs.Layout.{entries_from, kinds_from, near_from, stamps_from}
use Rattle.memory.proofs.EntryLaws.{entry-path}
use Rattle.queue.specs.State.{is_current, open_in, heap_state}
use Rattle.queue.specs.Stored.{entries_in, entry_rank}
use Rattle.queue.specs.Clauses.Queued.{Queue, Named, is_present, EntryKept, Kept}
use Rattle.queue.proofs.HoleLaws.{heap-agree}
use Rattle.queue.proofs.PresentLaws.{entries-same}

-- what a change leaves of the entries, and what it does to the points that it touches
pub record Moved (v f : ℕ) (w : List ℕ) (p q : List Float) (w' : List ℕ) (p' q' : List Float) (touched : ℕ → Bool) : Type 0 where
  pub entries : (i : ℕ) → i < 3 * f → entry_in v f w' p' q' i ≡ entry_in v f w p q i
  pub stamps : (x : ℕ) → x < v → stamp v f w' x ≡ stamp v f w x + cond (touched x) 1 0
  pub carries : (x : ℕ) → x < v → touched x ≡ false → vertex_at v f w' p' q' x ≡ vertex_at v f w p q x

-- no point is touched
abbrev pub untouched : ℕ → Bool
untouched x = false

-- cells past the entries change: they touch no point
pub moved-but : {v f lo hi : ℕ} {w w' : List ℕ} (p q : List Float) → But lo hi w w' → near_from v f ≤ lo → Moved v f w p q w' p q untouched
moved-but {v} {f} p q but above = record {
  entries = λ i l.
      let word : (k : ℕ) → k < 4 → _ = λ k h. but.under (entries_from v f + 4 * i + k) (omega arith) in
      entry-path (ap₂ pair_of (but.under (entries_from v f + 4 * i) (omega arith)) (word 1 (omega arith))) refl refl (word 2 (omega arith)) (word 3 (omega arith));
  stamps = λ x l. but.under (stamps_from v f + x) (omega arith) ∙ sym (add-zero _);
  carries = λ x l e. rw (but.under (kinds_from v f + x) (omega arith));
}

module _ {v f : ℕ} {w : List ℕ} {p q : List Float} {w' : List ℕ} {p' q' : List Float} {touched : ℕ → Bool}
    (moved : Moved v f w p q w' p' q' touched) where
  -- ---- one entry

  -- it stays current where neither of its points is touched
  present-moved : (e : Entry) → Named v e → (e.keepstamp ≤ stamp v f w e.pair.keep) × (e.removestamp ≤ stamp v f w e.pair.remove) →
      is_present v f w' e ≡ (is_present v f w e && spared touched e.pair)
  present-moved e named older =
      let keep = e.pair.keep in
      let remove = e.pair.remove in
      ap₂ ◌&&◌
      (ap (eqb e.keepstamp) (moved.stamps keep named.0) ∙ still-equal e.keepstamp (stamp v f w keep) (touched keep) older.0)
      (ap (eqb e.removestamp) (moved.stamps remove named.1) ∙ still-equal e.removestamp (stamp v f w remove) (touched remove) older.1)
      ∙ both-still (eqb e.keepstamp (stamp v f w keep)) (eqb e.removestamp (stamp v f w remove)) (touched keep) (touched remove)

  -- and knows what it knew
  kept-one : (bound : Float) (e : Entry) → EntryKept v f w p q bound e → EntryKept v f w' p' q' bound e
  kept-one bound e kept =
      let named = kept.named in
      let older = kept.older in
      let same = present-moved e named older in
      let now-too : is_present v f w' e ≡ true → (is_present v f w e && spared touched e.pair) ≡ true = λ now. sym same ∙ now in
      let was : is_present v f w' e ≡ true → is_present v f w e ≡ true = λ now. and_elim_left (is_present v f w e) (spared touched e.pair) (now-too now) in
      let neither : is_present v f w' e ≡ true → (touched e.pair.keep ≡ false) × (touched e.pair.remove ≡ false) =
      λ now. neither-of (touched e.pair.keep) (touched e.pair.remove) (not-true _ (and_elim_right (is_present v f w e) (spared touched e.pair) (now-too now))) in
      record {
        named = named;
        older = (
          rw (moved.stamps e.pair.keep named.0) (omega (arith, older.0)),
          rw (moved.stamps e.pair.remove named.1) (omega (arith, older.1)),
        );
        cost = λ now. kept.cost (was now)
            ∙ sym (ap₂ (pair_cost bound) (moved.carries e.pair.keep named.0 (neither now).0) (moved.carries e.pair.remove named.1 (neither now).1));
        place = λ now. kept.place (was now)
            ∙ sym (ap₂ (pair_place bound) (moved.carries e.pair.keep named.0 (neither now).0) (moved.carries e.pair.remove named.1 (neither now).1));
      }

  -- ---- the queue

  module _ {n : ℕ} (queue : Queue v f w p q n) where
    inside : (i : ℕ) → i < n → i < 3 * f
    inside i l = omega (arith, queue.few)

    -- it is a queue still
    pub queue-moved : length w' ≡ length w → length p' ≡ length p → length q' ≡ length q → Queue v f w' p' q' n
    queue-moved same_w same_p same_q =
        let enough = queue.enough in
        record {
          enough = record {
            room = record { points_few = enough.room.points_few; faces_few = enough.room.faces_few; long = rw same_w enough.room.long };
            places_long = rw same_p enough.places_long;
            costs_long = rw same_q enough.costs_long;
          };
          few = queue.few;
          ordered = heap-agree (λ k low l. ap entry_rank (moved.entries k (inside k l))) queue.ordered;
        }

    -- of the same entries
    pub entries-moved : entries_in v f w' p' q' n ≡ entries_in v f w p q n
    entries-moved = entries-same v f w p q w' p' q' n (λ i l. moved.entries i (inside i l))

    module _ {bound : Float} (kept : Kept v f w p q n bound) where
      -- the open pairs are those that are spared
      pub open-moved : open_in v f w' n ≡ those (spared touched) (open_in v f w n)
      unfolding open_in
      open-moved =
          kept-those (entry_pair v f w') (entry_pair v f w) (is_current v f w') (is_current v f w) (spared touched) (λ i. ltb i n)
          (λ i t. ap (λ (e : Entry). e.pair) (moved.entries i (inside i (ltb-true i n t))))
          (λ i t.
          let l = ltb-true i n t in
          let known = kept i l in
          ap (is_present v f w') (moved.entries i (inside i l)) ∙ present-moved (entry_in v f w p q i) known.named known.older)
          (below n) (all-below n)

      -- and what the entries know is true still
      pub kept-moved : Kept v f w' p' q' n bound
      kept-moved i l =
          subst (λ (e : Entry). EntryKept v f w' p' q' bound e) (sym (moved.entries i (inside i l))) (kept-one bound (entry_in v f w p q i) (kept i l))

-- ---- where no point is touched, the open pairs are as they were, and with the mesh the state of the walk

module _ {v f : ℕ} {w : List ℕ} {p q : List Float} {w' : List ℕ} {p' q' : List Float} {n : ℕ} {bound : Float}
    (moved : Moved v f w p q w' p' q' untouched) (queue : Queue v f w p q n) (kept : Kept v f w p q n bound) where
  -- the open pairs
  pub open-same : open_in v f w' n ≡ open_in v f w n
  open-same = open-moved moved queue kept ∙ those-all (open_in v f w n)

  -- the state
  pub state-same : mesh_of v f w' p' q' ≡ mesh_of v f w p q → heap_state v f w' p' q' n ≡ heap_state v f w p q n
  unfolding heap_state
  state-same same_mesh = rw (same_mesh, open-same)
