-- Two pairs are the same where their numbers are, and so a test on one pair finds it in a list.
-- Assumes nothing.
use Prim.Native.Nat.{ℕ, ◌+◌}
use mathlib.Core.Path.{◌≡◌, refl, sym, ap}
use mathlib.Core.List.{List}
use mathlib.Core.Bool.{Bool, true}
use mathlib.Mathlib.Data.Bool.Basic.{and_elim_left, and_elim_right, and_intro}
use lib.Dec.{eqb}
use borrow.Author.Tests.{eqb-true, eq-eqb}
use Rattle.walk.specs.declared.Pair.{Pair}
use Rattle.lists.specs.Lists.{sum, every, some, without, SameBag}
use Rattle.walk.specs.Pairs.{same_pair}
use Rattle.lists.proofs.EveryLaws.{every_some}
use Rattle.lists.proofs.SumLaws.{sum-without}
use Rattle.lists.proofs.BagLaws.{bag-without, bag-taken}

pub pair_path : {p q : Pair} → p.keep ≡ q.keep → p.remove ≡ q.remove → p ≡ q
pair_path k r i = record { keep = k i; remove = r i }

pub pair_unchanged : (p q : Pair) → same_pair p q ≡ true → q ≡ p
pair_unchanged p q h =
    pair_path
    (sym (eqb-true p.keep q.keep (and_elim_left _ (eqb p.remove q.remove) h)))
    (sym (eqb-true p.remove q.remove (and_elim_right (eqb p.keep q.keep) _ h)))

pub same_self : (p : Pair) → same_pair p p ≡ true
same_self p = and_intro (eq-eqb p.keep p.keep refl) (eq-eqb p.remove p.remove refl)

-- what every one passes, a pair among them passes
pub every-member : (test : Pair → Bool) (p : Pair) (ps : List Pair) → every test ps ≡ true → some (same_pair p) ps ≡ true → test p ≡ true
every-member test p ps all among =
    let (q, passes, same) = every_some test (same_pair p) ps all among in
    rw (pair_unchanged p q same) at passes

-- ---- one pair taken out of a list

pub sum-without-pair : (g : Pair → ℕ) (p : Pair) (ps : List Pair) → some (same_pair p) ps ≡ true →
    sum g (without (same_pair p) ps) + g p ≡ sum g ps
sum-without-pair g p = sum-without g (same_pair p) (g p) (λ q e. ap g (pair_unchanged p q e))

pub bag-without-pair : {ps qs : List Pair} → SameBag ps qs → (p : Pair) → SameBag (without (same_pair p) ps) (without (same_pair p) qs)
bag-without-pair same p = bag-without same (same_pair p) p (pair_unchanged p)

pub bag-taken-pair : (p : Pair) (ps qs : List Pair) → ((g : Pair → ℕ) → sum g ps + g p ≡ sum g qs) → SameBag ps (without (same_pair p) qs)
bag-taken-pair p = bag-taken (same_pair p) p (pair_unchanged p) (same_self p)
