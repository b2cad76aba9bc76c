-- The library never refuses the program's unit: the reader has refused every other. Assumes nothing.
use Prim.Native.Nat.{ℕ}
use mathlib.Core.Path.{refl}
use mathlib.Core.Logic.{◌≢◌}
use mathlib.Core.List.{List}
use lib.Ieee.{Float}
use Rattle.units.specs.declared.Unit.{Unit}
use Rattle.units.specs.declared.Unit.TheVariants.{Millimetre, Micrometre}
use Rattle.units.specs.Units.{unit_number}
use Rattle.meaning.specs.Outcome.{outcome}
use Rattle.promises.specs.Table.{Given, row-24}
use Rattle.promises.proofs.ExactlyWhen.{number-exactly-when}
use Rattle.scanfile.specs.declared.Head.{Head}
use Rattle.replies.specs.Replies.{call_of}

-- no unit's number is other than 1 and 2
neither : (u : Unit) → (unit_number u ≢ 1) × (unit_number u ≢ 2) → ⊥
neither Millimetre bad = bad.0 refl
neither Micrometre bad = bad.1 refl

-- so a file's mesh is never answered 24 by the library
pub unit-taken : (head : Head) (points : List Float) (faces margin : List ℕ) → (outcome (call_of head points faces margin)).answer.number ≢ 24
unit-taken head points faces margin e = by_row ((number-exactly-when (call_of head points faces margin) 24).0 e)
  where
    by_row : ((p : ℕ) × Given (call_of head points faces margin) 24 p) → ⊥
    by_row (p, row-24 past bad) = neither head.unit bad
