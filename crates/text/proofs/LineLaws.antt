-- Lines stored one after the other.
-- Assumes nothing.
use Prim.Native.Nat.{ℕ, suc, ◌+◌, ◌*◌, ◌≤◌}
use native.Mathlib.Numerals.{add-one}
use native.Mathlib.Omega.{arith}
use mathlib.Core.List.{List}
use Rattle.lists.specs.Puts.{Put}
use Rattle.lists.proofs.PutLaws.{wider, both}
use Rattle.text.specs.Lines.{lines_to}

-- one line more
pub line-more : (line : ℕ → List ℕ) (most n : ℕ) {a b c : List ℕ} {at p r : ℕ} → Put (most * n) (lines_to line n) at a b p → Put most (line n) p b c r →
    Put (most * (n + 1)) (lines_to line (n + 1)) at a c r
unfolding lines_to
line-more line most n before here =
    let next : most * n + most ≤ most * suc n = omega arith in
    rw (add-one n) (wider next (both before here))
