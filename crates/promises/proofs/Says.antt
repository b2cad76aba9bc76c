-- A test that says a thing: it passes exactly where the thing holds.
-- Assumes nothing.
use Prim.Native.Nat.{ℕ, ◌≤◌, ◌<◌}
use mathlib.Core.Path.{◌≡◌, refl, sym, ◌∙◌}
use native.Mathlib.Omega.{arith}
use mathlib.Core.Logic.{◌≢◌, ◌⊎◌, inl, inr, ⊎_elim}
use mathlib.Core.List.{List}
use mathlib.Core.Bool.{Bool, true, false, not, ◌&&◌, ◌||◌}
use mathlib.Mathlib.Data.Bool.Basic.{or_inl, or_inr}
use borrow.Author.Tests.{ltb-true, ltb-false, leb-true, lt-ltb, le-ltb, le-leb, eqb-true, eq-eqb, ne_eqb, not-true}
use lib.Dec.{ltb, leb, eqb}
use lib.ListN.{length, get_or}
use Rattle.lists.specs.Lists.{some, FirstAt, first_of}
use Rattle.lists.proofs.TestLaws.{clash, either-of, neither-of, false_of, differ}
use Rattle.lists.proofs.EveryLaws.{some-from}
use Rattle.lists.proofs.FirstLaws.{first-of}
use Rattle.promises.specs.Table.{First, None}

-- the test b says P
pub record Says (P : Type 0) (b : Bool) : Type 0 where
  pub holds : b ≡ true → P
  pub passes : P → b ≡ true

module _ {P : Type 0} {b : Bool} (says : Says P b) where
  -- where the test fails the thing does not hold
  pub not_so : b ≡ false → ¬ P
  not_so f p = clash (says.passes p) f

  -- where the thing does not hold the test fails
  pub fails : ¬ P → b ≡ false
  fails n = false_of b (λ t. n (says.holds t))

  -- another test that is the same says the same
  pub says_same : {c : Bool} → c ≡ b → Says P c
  says_same e = record { holds = λ t. says.holds (sym e ∙ t); passes = λ p. e ∙ says.passes p }

-- ---- one test

-- that it passes, and that it fails
pub says-itself : (b : Bool) → Says (b ≡ true) b
says-itself b = record { holds = λ t. t; passes = λ t. t }

pub says-not : (b : Bool) → Says (b ≡ false) (not b)
says-not b = record { holds = λ t. not-true b t; passes = λ f. rw f }

-- below, not below, and at most
pub says-below : (m n : ℕ) → Says (m < n) (ltb m n)
says-below m n = record { holds = λ t. ltb-true m n t; passes = λ h. lt-ltb m n h }

pub says-least : (m n : ℕ) → Says (n ≤ m) (not (ltb m n))
says-least m n = record { holds = λ t. ltb-false m n (not-true (ltb m n) t); passes = λ h. rw (le-ltb m n h) }

pub says-most : (m n : ℕ) → Says (m ≤ n) (leb m n)
says-most m n = record { holds = λ t. leb-true m n t; passes = λ h. le-leb m n h }

-- equal, and not equal
pub says-equal : (m n : ℕ) → Says (m ≡ n) (eqb m n)
says-equal m n = record { holds = λ t. eqb-true m n t; passes = λ e. eq-eqb m n e }

pub says-differ : (m n : ℕ) → Says (m ≢ n) (not (eqb m n))
says-differ m n = record { holds = λ t. differ m n t; passes = λ d. rw (ne_eqb m n d) }

-- ---- two tests

-- one or the other
pub says-or : {P Q : Type 0} {a b : Bool} → Says P a → Says Q b → Says (P ⊎ Q) (a || b)
says-or {a = a} {b = b} p q = record {
  holds = λ t. either-of a b t (λ x. inl (p.holds x)) (λ y. inr (q.holds y));
  passes = ⊎_elim (λ x. or_inl a b (p.passes x)) (λ y. or_inr a b (q.passes y));
}

-- not both is one or the other not
nand-or : (a b : Bool) → not (a && b) ≡ (not a || not b)
nand-or true b = refl
nand-or false b = refl

pub says-not-both : {P Q : Type 0} (a b : Bool) → Says P (not a) → Says Q (not b) → Says (P ⊎ Q) (not (a && b))
says-not-both a b p q = says_same (says-or p q) (nand-or a b)

-- neither one nor the other
pub says-neither : {P Q : Type 0} (a b : Bool) → Says P (not a) → Says Q (not b) → Says (P × Q) (not (a || b))
says-neither a b p q = record {
  holds = λ t. let each = neither-of a b (not-true (a || b) t) in (p.holds (rw each.0), q.holds (rw each.1));
  passes = λ h. rw (not-true a (p.passes h.0), not-true b (q.passes h.1));
}

-- ---- a test over a list: the first that passes, and that none does

module _ {A : Type 0} (test : A → Bool) (past : A) (xs : List A) {P : ℕ → Type 0}
    (says : (k : ℕ) → k < length xs → Says (P k) (test (get_or xs k past))) where
  -- the first that passes is the first of which the thing holds, and back
  pub first_says : {k : ℕ} → FirstAt test past xs k → First P (length xs) k
  first_says {k} f = record {
    within = f.within;
    here = (says k f.within).holds f.passes;
    none_before = λ j h. not_so (says j (omega (arith, f.within))) (f.none_before j h);
  }

  pub first_said : {k : ℕ} → First P (length xs) k → FirstAt test past xs k
  first_said {k} f = record {
    within = f.within;
    passes = (says k f.within).passes f.here;
    none_before = λ j h. fails (says j (omega (arith, f.within))) (f.none_before j h);
  }

  -- none passes where the thing holds of none, and back
  pub none-says : some test xs ≡ false → None P (length xs)
  none-says none k h p = clash (some-from test past xs k h ((says k h).passes p)) none

  pub none_said : None P (length xs) → some test xs ≡ false
  none_said none =
      false_of (some test xs)
      (λ t. let f = first_says (first-of test past xs t) in none (first_of test xs) f.within f.here)
