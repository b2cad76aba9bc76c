-- The state in memory: what of the memory it hangs on, and what is true of it.
-- Assumes nothing.
use Prim.Native.Nat.{ℕ, ◌+◌, ◌*◌, ◌≤◌, ◌<◌}
use native.Mathlib.Omega.{arith}
use mathlib.Core.Path.{◌≡◌, refl, sym, ap, ◌∙◌}
use mathlib.Core.List.{List, map}
use mathlib.Core.Bool.{true}
use lib.Ieee.{Float}
use lib.ListN.{length, get_or}
use borrow.Author.Tests.{ltb-true}
use Rattle.walk.specs.declared.Pair.{Pair}
use Rattle.lists.specs.Lists.{every, below}
use Rattle.walk.specs.Pairs.{same_pair}
use Rattle.lists.proofs.EveryLaws.{some-count, some-from}
use Rattle.walk.proofs.SamePairs.{pair_path, same_self}
use Rattle.walk.proofs.SoundLaws.{is_open_pair, open-below}
use Rattle.walk.proofs.StepLaws.{open-bound}
use Rattle.walk.proofs.LeastLaws.{fitting}
use Rattle.walk.proofs.BagWalk.{sound-fitting}
use Rattle.lists.specs.Frames.{But}
use Rattle.lists.proofs.BelowLaws.{length-each, get_d-each}
use Rattle.lists.proofs.FrameLaws.{but-refl, but-then, but-widen}
use Rattle.mesh.proofs.TidyLaws.{tidy-but}
use Rattle.mesh.proofs.AroundLaws.{live-faces-but, live-few}
use Rattle.memory.proofs.MeshLaws.{mesh-length, mesh-but}
use Rattle.memory.specs.Entries.{pair_at}
use Rattle.openpairs.specs.State.{open_pairs, state_of}
use Rattle.openpairs.specs.Clauses.Changes.{Named}
use Rattle.plainwalk.specs.Steps.{Holds, WithinTo}
use Rattle.memory.specs.Layout.{keeps_from, near_from, removes_from}
use Rattle.openpairs.proofs.OpenLaws.{open-length, open-same}

-- ---- what the state hangs on

-- the open pairs: on their own cells
module _ (v f n : ℕ) (w w' : List ℕ) (few : n ≤ 3 * f)
    (same : (i : ℕ) → keeps_from v f ≤ i → i < near_from v f → get_or w' i 0 ≡ get_or w i 0) where
  pub pair_same : (i : ℕ) → i < n → pair_at v f w' i ≡ pair_at v f w i
  pair_same i l = pair_path (same (keeps_from v f + i) (omega arith) (omega arith)) (same (removes_from v f + i) (omega arith) (omega arith))

  pub pairs-same : open_pairs v f w' n ≡ open_pairs v f w n
  pairs-same = open-same v f w w' n pair_same

-- the whole state: on the cells below those of near and far
pub state-but : (v f n : ℕ) {lo hi : ℕ} {w w' : List ℕ} (p q : List Float) → But lo hi w w' → near_from v f ≤ lo → n ≤ 3 * f →
    state_of v f w' p q n ≡ state_of v f w p q n
unfolding state_of
state-but v f n {lo} {hi} {w} {w'} p q but above few =
    rw (mesh-but v f p q but (omega arith), pairs-same v f n w w' few (λ i l m. but.under i (omega arith)))

-- ---- what is true of it

-- the pair in each place is one of them
pub open_at : (v f : ℕ) (w : List ℕ) (p q : List Float) (n i : ℕ) → i < n → is_open_pair (state_of v f w p q n) (pair_at v f w i)
unfolding state_of open_pairs
open_at v f w p q n i l =
    let h = pair_at v f w in
    ltb-true 0 _
    (sym (some-count (same_pair (h i)) (map h (below n)))
    ∙ some-from (same_pair (h i)) (h 0) (map h (below n)) i (rw length-each l) (rw (get_d-each h n i (h 0) l) (same_self (h i))))

module _ {v f : ℕ} {w : List ℕ} {p q : List Float} {n live : ℕ} (h : Holds v f w p q n live) where
  -- an open pair is of two points below v
  pub open-points : (x : Pair) → is_open_pair (state_of v f w p q n) x → (x.keep < v) × (x.remove < v)
  unfolding state_of
  open-points x is_open = rw mesh-length at (open-below (state_of v f w p q n) h.sound x is_open)

  pub open-named : Named v f w n
  open-named i l = open-points (pair_at v f w i) (open_at v f w p q n i l)

  -- they are at most three for each face
  pub open-few : n ≤ 3 * f
  unfolding state_of
  open-few = omega (arith, open-bound (state_of v f w p q n) h.sound, open-length v f w n, live-few f w)

  -- their numbers fit, so that the order tells them apart
  pub open-fitting : every fitting (open_pairs v f w n) ≡ true
  unfolding state_of
  open-fitting = sound-fitting h.sound (omega (arith, mesh-length v f w p q, h.tidy.room))

  -- cells of near and far may change
  pub holds-but : {lo hi : ℕ} {w' : List ℕ} → But lo hi w w' → near_from v f ≤ lo → Holds v f w' p q n live
  holds-but but above = record {
    tidy = tidy-but (omega arith) but h.tidy;
    points_long = h.points_long;
    quadrics_long = h.quadrics_long;
    sound = rw (state-but v f n p q but above open-few) h.sound;
    counted = h.counted ∙ ap length (sym (live-faces-but f but (omega arith)));
  }

-- ---- no more than the walk's own cells

pub within-refl : (past v f : ℕ) (w : List ℕ) (p q : List Float) → WithinTo past v f w p q w p q
within-refl past v f w p q = record { but = but-refl _ _ w; same_length_p = refl; same_length_q = refl; rest_p = refl; rest_q = refl }

-- cells of the u32 memory alone
pub within-but : {past v f lo hi : ℕ} {w w' : List ℕ} (p q : List Float) → But lo hi w w' → hi ≤ past → WithinTo past v f w p q w' p q
within-but p q but up = record {
  but = but-widen (omega arith) up but;
  same_length_p = refl;
  same_length_q = refl;
  rest_p = refl;
  rest_q = refl;
}

-- more cells
pub within_more : {past past' v f : ℕ} {w w' : List ℕ} {p q p' q' : List Float} → past ≤ past' →
    WithinTo past v f w p q w' p' q' → WithinTo past' v f w p q w' p' q'
within_more up one = record {
  but = but-widen (omega arith) up one.but;
  same_length_p = one.same_length_p;
  same_length_q = one.same_length_q;
  rest_p = one.rest_p;
  rest_q = one.rest_q;
}

pub within_then : {past v f : ℕ} {w w' w'' : List ℕ} {p q p' q' p'' q'' : List Float} →
    WithinTo past v f w p q w' p' q' → WithinTo past v f w' p' q' w'' p'' q'' → WithinTo past v f w p q w'' p'' q''
within_then one two = record {
  but = but-then one.but two.but;
  same_length_p = two.same_length_p ∙ one.same_length_p;
  same_length_q = two.same_length_q ∙ one.same_length_q;
  rest_p = two.rest_p ∙ one.rest_p;
  rest_q = two.rest_q ∙ one.rest_q;
}
