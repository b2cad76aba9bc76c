-- Every open pair of every state that the walk reaches is eligible in the mesh of that state.
-- Assumes nothing.
use Prim.Native.Nat.{ℕ}
use mathlib.Core.Path.{◌≡◌, ap₂, ◌∙◌}
use mathlib.Core.Logic.{◌≢◌}
use mathlib.Core.Bool.{true, ◌&&◌}
use mathlib.Mathlib.Data.Bool.Basic.{and_elim_right}
use lib.ListN.{length}
use lib.Seq.{get_or-set_other}
use Rattle.lists.specs.Lists.{those, every, below}
use Rattle.lists.proofs.EveryLaws.{every-both, every_map, every-those, every-passed, every-without}
use Rattle.walk.specs.declared.Pair.{Pair}
use Rattle.walk.specs.Faces.{neighbour, Rules, Mesh, data_of, merged_of}
use Rattle.walk.specs.Pairs.{pair_of, same_pair, apart, pairs_below, rises, eligible_pair, opened}
use Rattle.walk.specs.Fold.{folded_mesh}
use Rattle.walk.specs.Walk.{walk, State, StepAnswer, folded, closed, ended, started, answer, after, plain_machine}
use Rattle.walk.proofs.MachineLaws.{walk-keeps}
use Rattle.walk.proofs.PairLaws.{apart-known}
use Rattle.walk.proofs.SoundLaws.{pair-passes}
use Rattle.walk.proofs.StepLaws.{answer-folded}

module _ {D : Type 0} (rules : Rules D) where
  -- a point other than keep carries after a fold what it carried before
  pub other-same : (m : Mesh D) (p : Pair) (x : ℕ) → x ≢ p.keep → data_of rules (folded_mesh rules m p) x ≡ data_of rules m x
  unfolding folded_mesh
  other-same m p x other = get_or-set_other m.points p.keep x (merged_of rules m p) rules.blank other

  -- every open pair is eligible in the present mesh
  abbrev pub OpenEligible : State D → Type 0
  OpenEligible s = every (eligible_pair rules s.mesh) s.«open» ≡ true

  -- at the start
  pub started-eligible : (m : Mesh D) → OpenEligible (started rules m)
  unfolding started
  started-eligible m =
      every-passed (λ p. rises m.faces p && eligible_pair rules m p)
      (λ p h. and_elim_right (rises m.faces p) (eligible_pair rules m p) h) (pairs_below (length m.points))

  -- a pair apart from a fold is as eligible as before it
  apart-eligible :
      (m : Mesh D) (p q : Pair) → eligible_pair rules m q ≡ true → apart p q ≡ true → eligible_pair rules (folded_mesh rules m p) q ≡ true
  apart-eligible m p q h is-apart =
      let e = apart-known p q is-apart in
      ap₂ rules.eligible (other-same m p q.keep e.0) (other-same m p q.remove e.2) ∙ h

  -- a pair that a fold opens is eligible after it
  opened-eligible : (m : Mesh D) (k : ℕ) → every (eligible_pair rules m) (opened rules m k) ≡ true
  unfolding opened
  opened-eligible m k =
      rw every_map
      (every-passed (λ n. neighbour m.faces k n && eligible_pair rules m (pair_of k n))
      (λ n h. and_elim_right (neighbour m.faces k n) (eligible_pair rules m (pair_of k n)) h) (below (length m.points)))

  -- after any answer
  pub after-eligible : (s : State D) (a : StepAnswer) → OpenEligible s → OpenEligible (after rules s a)
  unfolding after
  after-eligible s (folded p) all =
      let m = folded_mesh rules s.mesh p in
      every-both (eligible_pair rules m) (those (apart p) s.«open») (opened rules m p.keep)
      (every-those (eligible_pair rules s.mesh) (apart p) (apart-eligible s.mesh p) s.«open» all)
      (opened-eligible m p.keep)
  after-eligible s (closed p reason) all = every-without (eligible_pair rules s.mesh) (same_pair p) s.«open» all
  after-eligible s ended all = all

  -- after any number of steps
  pub walk-eligible : (target n : ℕ) (s : State D) → OpenEligible s → OpenEligible (walk (plain_machine rules target) n s)
  walk-eligible target =
      walk-keeps (plain_machine rules target) (λ s. OpenEligible s) (λ s all. after-eligible s (answer rules target s) all)

  -- so a pair that is folded was eligible
  pub folded-eligible : (target : ℕ) (s : State D) (p : Pair) → OpenEligible s → answer rules target s ≡ folded p → eligible_pair rules s.mesh p ≡ true
  folded-eligible target s p all e =
      pair-passes (eligible_pair rules s.mesh) s.«open» p all (answer-folded rules target s p e).0
