-- A unit and its number: each gives the other back. Assumes nothing.
use Prim.Native.Nat.{ℕ, ◌<◌}
use native.Mathlib.Omega.{arith}
use mathlib.Core.Path.{◌≡◌, refl}
use mathlib.Core.Logic.{◌⊎◌, inl, inr, ⊎_elim}
use mathlib.Core.Bool.{true}
use borrow.Author.Tests.{eqb-true}
use lib.Dec.{eqb}
use Rattle.lists.proofs.TestLaws.{either-of}
use Rattle.units.specs.declared.Unit.{Unit}
use Rattle.units.specs.declared.Unit.TheVariants.{Millimetre, Micrometre}
use Rattle.std.specs.Prelude.{not, Result, Ok, Err, is_err}
use Rattle.units.specs.declared.UnknownUnit.{UnknownUnit}
use Rattle.units.specs.Units.{unit_number, known_unit, unit_of, ReadsUnit}

-- the unit of a unit's number
pub unit-of-number : (u : Unit) → unit_of (unit_number u) ≡ u
unit-of-number Millimetre = refl
unit-of-number Micrometre = refl

-- a unit's number is known
pub number_known : (u : Unit) → known_unit (unit_number u) ≡ true
number_known Millimetre = refl
number_known Micrometre = refl

-- a number that is known is 1 or 2
pub one-or-two : (n : ℕ) → known_unit n ≡ true → (n ≡ 1) ⊎ (n ≡ 2)
one-or-two n known = either-of (eqb n 1) (eqb n 2) known (λ e. inl (eqb-true n 1 e)) (λ e. inr (eqb-true n 2 e))

-- the number of a known number's unit
pub number-of-unit : (n : ℕ) → known_unit n ≡ true → unit_number (unit_of n) ≡ n
number-of-unit n known = ⊎_elim (λ e. rw e refl) (λ e. rw e refl) (one-or-two n known)

-- it fits in two bytes
pub number_short : (n : ℕ) → known_unit n ≡ true → n < 65536
number_short n known = ⊎_elim (λ e. omega arith) (λ e. omega arith) (one-or-two n known)

-- what is read says whether the number is known
pub known_read : (n : ℕ) (r : Result Unit UnknownUnit) → ReadsUnit n r → known_unit n ≡ not (is_err r)
known_read n (Ok unit) reads = reads.0
known_read n (Err e) reads = reads.0
