-- The start is sound, and closing a pair and folding one keep a state sound.
-- Assumes nothing.
use Prim.Native.Nat.{ℕ, ◌≤◌, ◌<◌}
use mathlib.Core.Path.{◌≡◌, sym, ◌∙◌}
use mathlib.Core.Logic.{◌≢◌}
use mathlib.Core.List.{List, ◌++◌}
use mathlib.Core.Bool.{Bool, true, not, ◌&&◌, ◌||◌, cond}
use mathlib.Mathlib.Data.Bool.Basic.{and_elim_left, and_elim_right}
use native.Mathlib.Nat.{le_trans}
use native.Mathlib.Omega.{arith}
use lib.Dec.{ltb, eqb}
use lib.ListN.{length, length-set}
use borrow.Author.Tests.{ltb-true, lt-ltb, eqb-false, ne_eqb}
use Rattle.walk.specs.declared.Face.{Face}
use Rattle.walk.specs.declared.Pair.{Pair}
use Rattle.walk.specs.declared.Reason.{Reason}
use Rattle.lists.specs.Lists.{count, those, every, some, below}
use Rattle.walk.specs.Faces.{both, shared, neighbour, runs, proper, Rules, Mesh}
use Rattle.walk.specs.Fold.{folded_mesh}
use Rattle.walk.specs.Walk.{State, folded, closed, started, after}
use Rattle.walk.specs.Pairs.{pair_of, same_pair, apart, rises, eligible_pair, pairs_below, opened}
use Rattle.walk.specs.Sound.{Sound, joins, held_by}
use Rattle.lists.proofs.TestLaws.{by-test, neither-of, flag_true, differ}
use Rattle.lists.proofs.SumLaws.{sum-append, sum-without-le, witness}
use Rattle.lists.proofs.EveryLaws.{some-count, count-those-le, count-mono, every-both, every_map, every-those, every-passed, every-without}
use Rattle.walk.proofs.FaceLaws.{runs-both, held_below}
use Rattle.walk.proofs.FoldLaws.{shared-face, folded-proper, folded-shared}
use Rattle.walk.proofs.SamePairs.{pair_unchanged}
use Rattle.walk.proofs.PairLaws.{apart-four, apart_none, star-once, star-none, rising-once}

-- ---- open pairs

-- a pair is one of the open ones
abbrev pub is_open_pair : {D : Type 0} → State D → Pair → Type 0
is_open_pair s p = 0 < count (same_pair p) s.«open»

-- what every pair of a list passes, each one of it passes
pub pair-passes :
    (test : Pair → Bool) (ps : List Pair) (p : Pair) → every test ps ≡ true → 0 < count (same_pair p) ps → test p ≡ true
pair-passes test ps p all h =
    let w = witness test (λ q. cond (same_pair p q) 1 0) ps all h in
    rw (pair_unchanged p w.0 (flag_true (same_pair p w.0) w.2)) at w.1

-- what it means that a live face holds a pair
pub held-differ : {D : Type 0} (s : State D) (p : Pair) → held_by s p ≡ true → p.keep ≢ p.remove
held-differ s p h = differ p.keep p.remove (and_elim_left (not (eqb p.keep p.remove)) _ h)

pub held-shared : {D : Type 0} (s : State D) (p : Pair) → held_by s p ≡ true → 0 < shared s.mesh.faces p.keep p.remove
held-shared s p h = ltb-true 0 (shared s.mesh.faces p.keep p.remove) (and_elim_right (not (eqb p.keep p.remove)) _ h)

pub held_of :
    {D : Type 0} (s : State D) (p : Pair) → p.keep ≢ p.remove → 0 < shared s.mesh.faces p.keep p.remove
    → held_by s p ≡ true
held_of s p k_r h = rw (ne_eqb p.keep p.remove k_r, lt-ltb 0 (shared s.mesh.faces p.keep p.remove) h)

pub held-points : {D : Type 0} (s : State D) → Sound s → (p : Pair) → held_by s p ≡ true → (p.keep < length s.mesh.points) × (p.remove < length s.mesh.points)
held-points s sound p h =
    let v = length s.mesh.points in
    let w = shared-face (proper v) s.mesh.faces p.keep p.remove sound.faces_proper (held-shared s p h) in
    (held_below v w.0 p.keep w.1 w.2, held_below v w.0 p.remove w.1 w.3)

-- an open pair of a sound state is of two points that there are, and some live face holds both
module _ {D : Type 0} (s : State D) (sound : Sound s) (p : Pair) (is_open : is_open_pair s p) where
  pub open-differ : p.keep ≢ p.remove
  open-differ = held-differ s p (pair-passes (held_by s) s.«open» p sound.open_held is_open)

  pub open_shared : 0 < shared s.mesh.faces p.keep p.remove
  open_shared = held-shared s p (pair-passes (held_by s) s.«open» p sound.open_held is_open)

  pub open-below : (p.keep < length s.mesh.points) × (p.remove < length s.mesh.points)
  open-below = held-points s sound p (pair-passes (held_by s) s.«open» p sound.open_held is_open)

module _ {D : Type 0} (rules : Rules D) where
  -- ---- the start

  -- a pair that opens at the start: its numbers rise, and a face has it for an edge
  rises-up : (m : Mesh D) (p : Pair) → (rises m.faces p && eligible_pair rules m p) ≡ true → p.keep < p.remove
  rises-up m p h =
      ltb-true p.keep p.remove
      (and_elim_left (ltb p.keep p.remove) (some (runs p.keep p.remove) m.faces) (and_elim_left (rises m.faces p) (eligible_pair rules m p) h))

  rises-shared : (faces : List Face) (p : Pair) → rises faces p ≡ true → 0 < shared faces p.keep p.remove
  rises-shared faces p h =
      let runs-some = and_elim_right (ltb p.keep p.remove) (some (runs p.keep p.remove) faces) h in
      le_trans
      (ltb-true 0 (count (runs p.keep p.remove) faces) (sym (some-count (runs p.keep p.remove) faces) ∙ runs-some))
      (count-mono (runs p.keep p.remove) (both p.keep p.remove) (runs-both p.keep p.remove) faces)

  -- the start is sound where every face is proper
  pub started-sound : (m : Mesh D) → every (proper (length m.points)) m.faces ≡ true → Sound (started rules m)
  unfolding started
  started-sound m all =
      record {
        faces_proper = all;
        open_held =
            every-passed (λ p. rises m.faces p && eligible_pair rules m p)
            (λ p h.
            held_of (started rules m) p (omega (arith, rises-up m p h))
            (rises-shared m.faces p (and_elim_left (rises m.faces p) (eligible_pair rules m p) h)))
            (pairs_below (length m.points));
        open_single = rising-once (length m.points) _ (rises-up m);
      }

  -- ---- a pair closed

  -- fewer pairs are open, and nothing else changes
  pub close-sound : (s : State D) → Sound s → (p : Pair) (reason : Reason) → Sound (after rules s (closed p reason))
  unfolding after
  close-sound s sound p reason =
      record {
        faces_proper = sound.faces_proper;
        open_held = every-without (held_by s) (same_pair p) s.«open» sound.open_held;
        open_single = λ x y. le_trans (sum-without-le (λ q. cond (joins x y q) 1 0) (same_pair p) s.«open») (sound.open_single x y);
      }

  -- ---- a pair folded

  -- an open pair apart from the fold is held as before
  kept-held :
      (s : State D) (p : Pair) → p.keep ≢ p.remove → (q : Pair) → held_by s q ≡ true → apart p q ≡ true
      → held_by (after rules s (folded p)) q ≡ true
  unfolding after folded_mesh
  kept-held s p k_r q held is-apart =
      let q-differ = held-differ s q held in
      held_of (after rules s (folded p)) q q-differ
      (rw (folded-shared s.mesh.faces p q.keep q.remove (apart-four p q k_r q-differ is-apart)) (held-shared s q held))

  -- a pair opened is held: that is what a neighbour is
  opened-held : (s : State D) (k : ℕ) → every (held_by s) (opened rules s.mesh k) ≡ true
  unfolding opened
  opened-held s k =
      rw every_map
      (every-passed (λ n. neighbour s.mesh.faces k n && eligible_pair rules s.mesh (pair_of k n))
      (λ n h. and_elim_left (neighbour s.mesh.faces k n) (eligible_pair rules s.mesh (pair_of k n)) h)
      (below (length s.mesh.points)))

  -- two points are joined by an old pair where keep is neither, and by a new one where it is either
  opened-once : (m : Mesh D) (k x y : ℕ) → count (joins x y) (opened rules m k) ≤ 1
  unfolding opened
  opened-once m k x y = star-once k (length m.points) _ x y

  opened-none : (m : Mesh D) (k x y : ℕ) → k ≢ x → k ≢ y → count (joins x y) (opened rules m k) ≡ 0
  unfolding opened
  opened-none m k x y k-x k-y = star-none k (length m.points) _ x y k-x k-y

  fold-single :
      (s : State D) → Sound s → (p : Pair) (m : Mesh D) (x y : ℕ)
      → count (joins x y) (those (apart p) s.«open» ++ opened rules m p.keep) ≤ 1
  fold-single s sound p m x y =
      rw sum-append
      (by-test (eqb p.keep x || eqb p.keep y)
      (λ t. omega (arith, apart_none p s.«open» x y t, opened-once m p.keep x y))
      (λ t.
      let n = neither-of (eqb p.keep x) (eqb p.keep y) t in
      omega (
        arith,
        count-those-le (joins x y) (apart p) s.«open»,
        sound.open_single x y,
        opened-none m p.keep x y (eqb-false p.keep x n.0) (eqb-false p.keep y n.1),
      )))

  -- the fold of an open pair, whether allowed or not, keeps a state sound
  pub fold-sound : (s : State D) → Sound s → (p : Pair) → is_open_pair s p → Sound (after rules s (folded p))
  unfolding after folded_mesh
  fold-sound s sound p is_open =
      let k_r = open-differ s sound p is_open in
      record {
        faces_proper =
            rw length-set
            (folded-proper (length s.mesh.points) s.mesh.faces p (open-below s sound p is_open).0 sound.faces_proper);
        open_held =
            every-both (held_by (after rules s (folded p))) (those (apart p) s.«open») (opened rules (folded_mesh rules s.mesh p) p.keep)
            (every-those (held_by s) (apart p) (kept-held s p k_r) s.«open» sound.open_held)
            (opened-held (after rules s (folded p)) p.keep);
        open_single = fold-single s sound p (folded_mesh rules s.mesh p);
      }
