-- What a scan is measured in: a unit's number (document 01, "The program and its file") and its bound (document 02, wish 3).
use Rattle.std.specs.Prelude.{ℕ, ◌≡◌, refl, [], ◌∷◌, map, Bool, true, false, ◌||◌, cond, eqb, Float, Result, MatchResult}
use Rattle.std.specs.Float.{binary32}
use Rattle.std.specs.Float.Ieee.{of_bits}
use Rattle.units.specs.declared.Unit.{Unit}
use Rattle.units.specs.declared.Unit.TheVariants.{Millimetre, Micrometre}
use Rattle.units.specs.declared.UnknownUnit.{UnknownUnit}

-- a unit's number
abbrev pub unit_number : Unit → ℕ
unit_number Millimetre = 1
unit_number Micrometre = 2

-- its bound, which no coordinate's size is above: 1,024 and 1,048,576
abbrev pub unit_bound : Unit → Float
unit_bound Millimetre = of_bits binary32 0x4480_0000
unit_bound Micrometre = of_bits binary32 0x4980_0000

-- whether a number is a unit's; 24 refuses any other
abbrev pub known_unit : ℕ → Bool
known_unit n = eqb n (unit_number Millimetre) || eqb n (unit_number Micrometre)

-- the unit of a number that is one's; any other is refused by 24 before its unit is looked at
abbrev pub unit_of : ℕ → Unit
unit_of n = cond (eqb n (unit_number Millimetre)) Millimetre Micrometre

-- what a number is read as: its unit where it is one's, and else an error that has the number
abbrev pub ReadsUnit : ℕ → Result Unit UnknownUnit → Type 0
ReadsUnit n r = MatchResult r (λ unit. (known_unit n ≡ true) × (unit ≡ unit_of n)) (λ e. (known_unit n ≡ false) × (e.0 ≡ n))

-- of 0 to 3, of 1 with a higher bit and of the highest number, 1 and 2 are units'
pub known-hold : map known_unit (0 ∷ 1 ∷ 2 ∷ 3 ∷ 65537 ∷ 4294967295 ∷ []) ≡ false ∷ true ∷ true ∷ false ∷ false ∷ false ∷ []
known-hold = refl
