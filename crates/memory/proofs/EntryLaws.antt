-- An entry of the queue that is written: it reads back, every other one is as before, and so is every cell that is none of an entry's.
-- Assumes nothing.
use Prim.Native.Nat.{ℕ, ◌+◌, ◌*◌, ◌<◌}
use native.Mathlib.Nat.{add-zero}
use native.Mathlib.Omega.{arith}
use mathlib.Core.Path.{◌≡◌, ap₂}
use mathlib.Core.Logic.{◌≢◌}
use mathlib.Core.List.{List}
use lib.Ieee.{Float, nan}
use lib.ListN.{get_or, set, length-set}
use lib.Seq.{sets, length-sets, get_or-set_same, get_or-set_other, drop-set-lt}
use Rattle.lists.specs.Frames.{But, FloatsBut}
use Rattle.lists.proofs.FrameLaws.{but-refl, but-then, floats-refl, floats-then}
use Rattle.lists.proofs.StoredLaws.{stored_at, stored_other}
use Rattle.walk.specs.Pairs.{pair_of}
use Rattle.memory.specs.declared.entries.Entry.{Entry}
use Rattle.memory.specs.Points.{with_point, point_parts}
use Rattle.memory.specs.Entries.{entry_words, EntryRoom, EntriesOnly, EntrySet}
use Rattle.memory.specs.Layout.{costs_from, costs_to, entries_from, near_from, places_from, places_to}
use Rattle.memory.proofs.PointLaws.{point-stored}

-- two entries with the same stored
pub entry-path : {a b : Entry} → a.pair ≡ b.pair → a.cost ≡ b.cost → a.place ≡ b.place → a.keepstamp ≡ b.keepstamp → a.removestamp ≡ b.removestamp → a ≡ b
entry-path pairs costs places keeps removes t =
    record { pair = pairs t; cost = costs t; place = places t; keepstamp = keeps t; removestamp = removes t }

-- ---- no cell but those of entries changes

pub only-refl : (v f : ℕ) (w : List ℕ) (p q : List Float) → EntriesOnly v f w p q w p q
only-refl v f w p q = record { but = but-refl _ _ w; points_but = floats-refl _ _ p; quadrics_but = floats-refl _ _ q }

pub only_then : {v f : ℕ} {w w' w'' : List ℕ} {p q p' q' p'' q'' : List Float} →
    EntriesOnly v f w p q w' p' q' → EntriesOnly v f w' p' q' w'' p'' q'' → EntriesOnly v f w p q w'' p'' q''
only_then one two = record {
  but = but-then one.but two.but;
  points_but = floats-then one.points_but two.points_but;
  quadrics_but = floats-then one.quadrics_but two.quadrics_but;
}

-- there is room still
pub room-only : {v f : ℕ} {w w' : List ℕ} {p q p' q' : List Float} → EntriesOnly v f w p q w' p' q' → EntryRoom v f w p q → EntryRoom v f w' p' q'
room-only only enough =
    let room = enough.room in
    record {
      room = record { points_few = room.points_few; faces_few = room.faces_few; long = rw only.but.same_length room.long };
      places_long = rw only.points_but.same_length enough.places_long;
      costs_long = rw only.quadrics_but.same_length enough.costs_long;
    }

-- ---- the u32 memory

module _ {v f : ℕ} {w w' : List ℕ} {p q : List Float} {i : ℕ} (e : Entry) (enough : EntryRoom v f w p q) (inside : i < 3 * f)
    (words : w' ≡ sets w (entries_from v f + 4 * i) (entry_words e)) where
  word-here : (k : ℕ) → k < 4 → get_or w' (entries_from v f + 4 * i + k) 0 ≡ get_or (entry_words e) k 0
  word-here k h = rw words (stored_at 0 (entry_words e) w (entries_from v f + 4 * i) (omega (arith, enough.room.long)) k h)

  word-other : (j : ℕ) → ((k : ℕ) → k < 4 → j ≢ entries_from v f + 4 * i + k) → get_or w' j 0 ≡ get_or w j 0
  word-other j apart = rw words (stored_other 0 (entry_words e) w (entries_from v f + 4 * i) j apart)

  words-but : But (entries_from v f) (near_from v f) w w'
  words-but = record {
    same_length = rw words (length-sets w (entries_from v f + 4 * i) (entry_words e));
    under = λ j l. word-other j (λ k h. omega arith);
    over = λ j l. word-other j (λ k h. omega arith);
  }

-- ---- all three

module _ {v f : ℕ} {w w' : List ℕ} {p q p' q' : List Float} {i : ℕ} (e : Entry) (enough : EntryRoom v f w p q) (inside : i < 3 * f)
    (words : w' ≡ sets w (entries_from v f + 4 * i) (entry_words e)) (places : p' ≡ with_point p (v + i) e.place) (costs : q' ≡ set q (costs_from v + i) e.cost) where
  places-but : FloatsBut (places_from v) (places_to v f) p p'
  unfolding with_point
  places-but =
      let end : 3 * (v + 3 * f) ≡ places_to v f = omega arith in
      record {
        same_length = rw places (point-stored p (v + i) e.place).same_length;
        under = λ j l. rw places (stored_other nan (point_parts e.place) p (3 * (v + i)) j (λ k h. omega arith));
        rest = rw places (rw end at ((point-stored p (v + i) e.place).rest (v + 3 * f) (omega arith)));
      }

  costs-but : FloatsBut (costs_from v) (costs_to v f) q q'
  costs-but = record {
    same_length = rw costs (length-set q (costs_from v + i) e.cost);
    under = λ j l. rw costs (get_or-set_other q (costs_from v + i) j e.cost nan (omega arith));
    rest = rw costs (drop-set-lt (costs_to v f) q (costs_from v + i) e.cost (omega arith));
  }

  pub entry_set : EntrySet v f w p q i e w' p' q'
  entry_set =
      let word = word-here e enough inside words in
      let first = simp add-zero at (word 0 (omega arith)) in
      record {
        only = record { but = words-but e enough inside words; points_but = places-but; quadrics_but = costs-but };
        here =
            entry-path (ap₂ pair_of first (word 1 (omega arith)))
            (rw costs (get_or-set_same q (costs_from v + i) e.cost nan (omega (arith, enough.costs_long))))
            (rw places ((point-stored p (v + i) e.place).back (omega (arith, enough.places_long))))
            (word 2 (omega arith)) (word 3 (omega arith));
        other = λ j apart.
            let same : (k : ℕ) → k < 4 → get_or w' (entries_from v f + 4 * j + k) 0 ≡ get_or w (entries_from v f + 4 * j + k) 0 =
            λ k h. word-other e enough inside words (entries_from v f + 4 * j + k) (λ m g d. apart (omega arith)) in
            let start = simp add-zero at (same 0 (omega arith)) in
            entry-path (ap₂ pair_of start (same 1 (omega arith)))
            (rw costs (get_or-set_other q (costs_from v + i) (costs_from v + j) e.cost nan (λ d. apart (omega arith))))
            (rw places ((point-stored p (v + i) e.place).other (v + j) (λ d. apart (omega arith))))
            (same 2 (omega arith)) (same 3 (omega arith));
      }
