-- What an input that is not too large has.
use Prim.Native.Nat.{ℕ, ◌≤◌}
use mathlib.Core.Path.{◌≡◌}
use mathlib.Core.Bool.{false}
use borrow.Author.Tests.{ltb-false}
use Rattle.meaning.specs.Answers.{large}
use Rattle.lists.proofs.TestLaws.{neither-of}

-- neither too many points nor too many faces
pub not-large : (v f : ℕ) → large v f ≡ false → (v ≤ 65536) × (f ≤ 131072)
not-large v f e =
    let each = neither-of _ _ e in
    (ltb-false 65536 v each.0, ltb-false 131072 f each.1)
