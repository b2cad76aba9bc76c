-- What a change of some cells leaves as it was.
-- Assumes nothing.
use Prim.Native.Nat.{ℕ, ◌≤◌, ◌<◌}
use native.Mathlib.Omega.{arith}
use mathlib.Core.Path.{refl, ◌∙◌}
use mathlib.Core.List.{List}
use lib.Ieee.{Float}
use lib.ListN.{set, length-set}
use lib.Seq.{get_or-set_other}
use Rattle.lists.specs.Frames.{But, FloatsBut}

-- no change
pub but-refl : (lo hi : ℕ) (w : List ℕ) → But lo hi w w
but-refl lo hi w = record { same_length = refl; under = λ i l. refl; over = λ i l. refl }

-- one change after another
pub but-then : {lo hi : ℕ} {w w' w'' : List ℕ} → But lo hi w w' → But lo hi w' w'' → But lo hi w w''
but-then p q = record {
  same_length = q.same_length ∙ p.same_length;
  under = λ i l. q.under i l ∙ p.under i l;
  over = λ i l. q.over i l ∙ p.over i l;
}

-- a change of fewer cells
pub but-widen : {lo hi lo' hi' : ℕ} {w w' : List ℕ} → lo' ≤ lo → hi ≤ hi' → But lo hi w w' → But lo' hi' w w'
but-widen down up p = record {
  same_length = p.same_length;
  under = λ i l. p.under i (omega arith);
  over = λ i l. p.over i (omega arith);
}

-- one cell
pub but-set : (lo hi : ℕ) (w : List ℕ) (i a : ℕ) → lo ≤ i → i < hi → But lo hi w (set w i a)
but-set lo hi w i a low high = record {
  same_length = length-set w i a;
  under = λ j l. get_or-set_other w i j a 0 (omega arith);
  over = λ j l. get_or-set_other w i j a 0 (omega arith);
}

-- ---- floats that change

pub floats-refl : (lo hi : ℕ) (p : List Float) → FloatsBut lo hi p p
floats-refl lo hi p = record { same_length = refl; under = λ i l. refl; rest = refl }

pub floats-then : {lo hi : ℕ} {p p' p'' : List Float} → FloatsBut lo hi p p' → FloatsBut lo hi p' p'' → FloatsBut lo hi p p''
floats-then one two = record {
  same_length = two.same_length ∙ one.same_length;
  under = λ i l. two.under i l ∙ one.under i l;
  rest = two.rest ∙ one.rest;
}
