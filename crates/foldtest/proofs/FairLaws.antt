-- The two tests of a face's normals, taken one after the other.
-- Assumes nothing.
use Prim.Native.Nat.{ℕ}
use mathlib.Core.Path.{◌≡◌, sym, ◌∙◌}
use mathlib.Core.Bool.{Bool, true, false}
use lib.Ieee.{Float}
use Rattle.geometry.specs.declared.Point.{Point}
use Rattle.geometry.specs.Points.{dot, norm}
use Rattle.walk.specs.declared.Reason.TheVariants.{Squashed, TurnedOver}
use Rattle.std.specs.Prelude.{Ok, Err}
use Rattle.walk.specs.FoldTest.{harm}
use Rattle.meaning.specs.Arithmetic.{squashed_normals, turned_normals}
use Rattle.foldtest.specs.Clauses.Fair.{squashed, turned}

-- the first test fails, or the second does, or neither
harm-first : (number : ℕ) (s t : Bool) → s ≡ true → Err (Squashed number) ≡ harm number true s t
unfolding harm
harm-first number s t e = rw e

harm-second : (number : ℕ) (s t : Bool) → s ≡ false → t ≡ true → Err (TurnedOver number) ≡ harm number true s t
unfolding harm
harm-second number s t e d = rw (e, d)

pub harm-none : (number : ℕ) (s t : Bool) → s ≡ false → t ≡ false → Ok tt ≡ harm number true s t
unfolding harm
harm-none number s t e d = rw (e, d)

module _ (number : ℕ) (before after : Point) {b a : Float} (norm-before : b ≡ norm before) (norm-after : a ≡ norm after)
    {r : Bool} (first : r ≡ squashed b a) where
  -- the first, in the words of the definition
  squashes : r ≡ squashed_normals before after
  squashes = rw (← norm-before, ← norm-after) first

  -- a face is squashed
  pub judged-squashed : r ≡ true → Err (Squashed number) ≡ harm number true (squashed_normals before after) (turned_normals before after)
  judged-squashed t = harm-first number _ _ (sym squashes ∙ t)

  module _ (left : r ≡ false) {d : Float} (dotted : d ≡ dot before after) {s : Bool} (second : s ≡ turned b a d) where
    turns : s ≡ turned_normals before after
    turns = rw (← norm-before, ← norm-after, ← dotted) second

    -- one that isn't is turned over, or neither
    pub judged-turned : s ≡ true → Err (TurnedOver number) ≡ harm number true (squashed_normals before after) (turned_normals before after)
    judged-turned t = harm-second number _ _ (sym squashes ∙ left) (sym turns ∙ t)

    pub judged-fair : s ≡ false → Ok tt ≡ harm number true (squashed_normals before after) (turned_normals before after)
    judged-fair t = harm-none number _ _ (sym squashes ∙ left) (sym turns ∙ t)
