-- A point that no eligible pair may have is in no fold, and carries the same after every step.
-- Assumes nothing.
use Prim.Native.Nat.{ℕ}
use mathlib.Core.Path.{◌≡◌, refl, sym, ap, ◌∙◌}
use mathlib.Core.Logic.{◌≢◌}
use mathlib.Core.Bool.{Bool, true, false}
use Rattle.lists.proofs.TestLaws.{clash}
use Rattle.walk.specs.declared.Pair.{Pair}
use Rattle.walk.specs.Faces.{Rules, data_of}
use Rattle.walk.specs.Pairs.{eligible_pair}
use Rattle.walk.specs.Walk.{walk, State, StepAnswer, folded, closed, ended, answer, after, plain_machine}
use Rattle.walk.proofs.MachineLaws.{walk-keeps}
use Rattle.walk.proofs.SoundLaws.{is_open_pair, pair-passes}
use Rattle.walk.proofs.StepLaws.{Told, answer-told}
use Rattle.walk.proofs.EligibleLaws.{OpenEligible, other-same, after-eligible}

-- `held` tells of what a point carries that no eligible pair may have it
module _ {D : Type 0} (rules : Rules D) (held : D → Bool)
    (never : (keep remove : D) → rules.eligible keep remove ≡ true → (held keep ≡ false) × (held remove ≡ false)) where
  -- such a point is in no open pair
  pub held-apart :
      (s : State D) → OpenEligible rules s → (x : ℕ) → held (data_of rules s.mesh x) ≡ true
      → (p : Pair) → is_open_pair s p → (p.keep ≢ x) × (p.remove ≢ x)
  held-apart s all x is p is_open =
      let e = never _ _ (pair-passes (eligible_pair rules s.mesh) s.«open» p all is_open) in (
        λ k. clash (ap (λ y. held (data_of rules s.mesh y)) k ∙ is) e.0,
        λ r. clash (ap (λ y. held (data_of rules s.mesh y)) r ∙ is) e.1,
      )

  -- so a step leaves what it carries
  told-still :
      (s : State D) → OpenEligible rules s → (x : ℕ) → held (data_of rules s.mesh x) ≡ true
      → (a : StepAnswer) → Told rules s.mesh s.«open» a → data_of rules (after rules s a).mesh x ≡ data_of rules s.mesh x
  unfolding after
  told-still s all x is (folded p) told = other-same rules s.mesh p x (λ e. (held-apart s all x is p told.0).0 (sym e))
  told-still s all x is (closed p reason) told = refl
  told-still s all x is ended told = refl

  -- and so does the walk
  pub walk-still :
      (target n : ℕ) (s : State D) → OpenEligible rules s → (x : ℕ) → held (data_of rules s.mesh x) ≡ true
      → data_of rules (walk (plain_machine rules target) n s).mesh x ≡ data_of rules s.mesh x
  walk-still target n s all x is =
      (walk-keeps (plain_machine rules target) (λ t. (data_of rules t.mesh x ≡ data_of rules s.mesh x) × OpenEligible rules t)
      (λ t same.
      let still = told-still t same.1 x (ap held same.0 ∙ is) (answer rules target t) (answer-told rules target t) in
      (still ∙ same.0, after-eligible rules t (answer rules target t) same.1))
      n s (refl, all)).0
