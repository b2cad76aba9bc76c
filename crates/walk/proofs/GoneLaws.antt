-- A removed point is gone: no live face holds it and no open pair touches it, right after the fold and ever after.
-- Assumes nothing.
use Prim.Native.Nat.{ℕ, ◌<◌}
use mathlib.Core.Path.{◌≡◌, sym, subst}
use mathlib.Core.Logic.{◌≢◌}
use mathlib.Core.List.{List}
use mathlib.Core.Bool.{Bool, true, not, ◌&&◌, ◌||◌}
use mathlib.Mathlib.Data.Bool.Basic.{and_elim_left, and_elim_right}
use lib.Dec.{ltb, eqb}
use lib.ListN.{length}
use borrow.Author.Tests.{ltb-true, eqb-false, ne_eqb, not-true}
use Rattle.walk.specs.declared.Face.{Face}
use Rattle.walk.specs.declared.Pair.{Pair}
use Rattle.lists.specs.Lists.{those, every, below}
use Rattle.walk.specs.Faces.{holds, both, shared, neighbour, Rules, Mesh}
use Rattle.walk.specs.Fold.{folded_faces, folded_mesh}
use Rattle.walk.specs.Walk.{walk, State, StepAnswer, folded, closed, ended, answer, after, plain_machine}
use Rattle.walk.specs.Pairs.{pair_of, same_pair, apart, eligible_pair, opened}
use Rattle.walk.specs.Sound.{Sound}
use Rattle.lists.proofs.TestLaws.{clash, neither-of}
use Rattle.lists.proofs.EveryLaws.{every-both, every_map, every-those, every-passed, every-without}
use Rattle.walk.proofs.FaceLaws.{holds-other}
use Rattle.walk.proofs.FoldLaws.{shared-face, folded-gone}
use Rattle.walk.proofs.PairLaws.{apart-known}
use Rattle.walk.proofs.SoundLaws.{is_open_pair, pair-passes, open-differ}
use Rattle.walk.proofs.MachineLaws.{walk-keeps}
use Rattle.walk.proofs.StepLaws.{Told, answer-told}

-- a face that doesn't hold a point, and a pair that doesn't touch it
abbrev pub without-point : ℕ → Face → Bool
without-point x f = not (holds x f)

abbrev pub misses : ℕ → Pair → Bool
misses x q = not (eqb q.keep x || eqb q.remove x)

-- a point that is gone
pub record Gone {D : Type 0} (s : State D) (x : ℕ) : Type 0 where
  pub has_no_face : every (without-point x) s.mesh.faces ≡ true
  pub no_pair : every (misses x) s.«open» ≡ true

-- the test says so, and back
pub misses-known : (x : ℕ) (q : Pair) → misses x q ≡ true → (q.keep ≢ x) × (q.remove ≢ x)
misses-known x q h =
    let n = neither-of (eqb q.keep x) (eqb q.remove x) (not-true _ h) in
    (eqb-false q.keep x n.0, eqb-false q.remove x n.1)

pub misses_of : (x : ℕ) (q : Pair) → q.keep ≢ x → q.remove ≢ x → misses x q ≡ true
misses_of x q k r = rw (ne_eqb q.keep x k, ne_eqb q.remove x r)

-- a point that no face holds is in none after the fold of others
folded-still :
    (faces : List Face) (p : Pair) (x : ℕ) → x ≢ p.keep → x ≢ p.remove
    → every (without-point x) faces ≡ true → every (without-point x) (folded_faces faces p) ≡ true
unfolding folded_faces
folded-still faces p x x_k x_r none =
    rw every_map
    (every-those (without-point x) (λ f. not (both p.keep p.remove f))
    (λ f h t. rw (holds-other p.keep p.remove x x_k x_r f) h) faces none)

-- a point that no face holds shares no face
shared-other :
    (faces : List Face) (x k n : ℕ) → every (without-point x) faces ≡ true → 0 < shared faces k n → n ≢ x
shared-other faces x k n none share e =
    let w = shared-face (without-point x) faces k n none share in
    clash (subst (λ y. holds y w.0 ≡ true) e w.3) (not-true (holds x w.0) w.1)

module _ {D : Type 0} (rules : Rules D) where
  -- a point that no face holds is nobody's neighbour, so no pair opens with it
  opened-misses :
      (m : Mesh D) (k x : ℕ) → k ≢ x → every (without-point x) m.faces ≡ true → every (misses x) (opened rules m k) ≡ true
  unfolding opened
  opened-misses m k x k-x none =
      rw every_map
      (every-passed (λ n. neighbour m.faces k n && eligible_pair rules m (pair_of k n))
      (λ n h.
      let near = and_elim_left (neighbour m.faces k n) (eligible_pair rules m (pair_of k n)) h in
      let share = ltb-true 0 (shared m.faces k n) (and_elim_right (not (eqb k n)) (ltb 0 (shared m.faces k n)) near) in
      misses_of x (pair_of k n) k-x (shared-other m.faces x k n none share))
      (below (length m.points)))

  -- after its fold the removed point is gone
  pub fold-gone : (s : State D) → Sound s → (p : Pair) → is_open_pair s p → Gone (after rules s (folded p)) p.remove
  unfolding after folded_mesh
  fold-gone s sound p is_open =
      let k_r = open-differ s sound p is_open in
      record {
        has_no_face = folded-gone s.mesh.faces p k_r;
        no_pair =
            every-both (misses p.remove) (those (apart p) s.«open») (opened rules (folded_mesh rules s.mesh p) p.keep)
            (every-passed (apart p) (λ q h. let e = apart-known p q h in misses_of p.remove q e.1 e.3) s.«open»)
            (opened-misses (folded_mesh rules s.mesh p) p.keep p.remove k_r (folded-gone s.mesh.faces p k_r));
      }

  -- and a point that is gone stays so, whatever a step answers
  told-gone :
      (s : State D) (x : ℕ) → Gone s x → (a : StepAnswer) → Told rules s.mesh s.«open» a → Gone (after rules s a) x
  unfolding after folded_mesh
  told-gone s x gone (folded p) told =
      let e = misses-known x p (pair-passes (misses x) s.«open» p gone.no_pair told.0) in
      let none = folded-still s.mesh.faces p x (λ d. e.0 (sym d)) (λ d. e.1 (sym d)) gone.has_no_face in
      record {
        has_no_face = none;
        no_pair =
            every-both (misses x) (those (apart p) s.«open») (opened rules (folded_mesh rules s.mesh p) p.keep)
            (every-those (misses x) (apart p) (λ q h t. h) s.«open» gone.no_pair)
            (opened-misses (folded_mesh rules s.mesh p) p.keep x e.0 none);
      }
  told-gone s x gone (closed p reason) told =
      record { has_no_face = gone.has_no_face; no_pair = every-without (misses x) (same_pair p) s.«open» gone.no_pair }
  told-gone s x gone ended told = gone

  -- so after a step, and after a walk
  pub step_gone : (target : ℕ) (s : State D) (x : ℕ) → Gone s x → Gone (after rules s (answer rules target s)) x
  step_gone target s x gone = told-gone s x gone (answer rules target s) (answer-told rules target s)

  pub walk-gone : (target n : ℕ) (s : State D) (x : ℕ) → Gone s x → Gone (walk (plain_machine rules target) n s) x
  walk-gone target n s x = walk-keeps (plain_machine rules target) (λ t. Gone t x) (λ t. step_gone target t x) n s
