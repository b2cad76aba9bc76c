-- A record that nothing refuses, and what each refusal comes from.
-- Assumes nothing.
use Prim.Native.Nat.{ℕ, ◌+◌, ◌%◌, ◌≤◌, ◌<◌}
use native.Mathlib.Omega.{arith}
use mathlib.Core.Path.{◌≡◌, refl}
use mathlib.Core.List.{List}
use mathlib.Core.Bool.{Bool, true, false, not}
use lib.Dec.{ltb, eqb}
use lib.ListN.{length}
use borrow.Author.Tests.{ltb-false, eqb-true, lt-ltb, le-ltb, eq-eqb, ne_eqb, not-false}
use Rattle.records.specs.Records.{head_length, size_at, kind_at, next_at}
use Rattle.units.specs.Units.{known_unit}
use Rattle.std.specs.Prelude.{Ok, Err}
use Rattle.scanfile.specs.declared.faults.Fault.TheVariants.{CutShort, OtherKind, WrongSize, UnknownUnit, UnknownFlag, TooMany}
use Rattle.scanfile.specs.Faults.{fault_if, wrong_size, most_of, record_fault, unit_in, flags_in, options_fault}

-- the record at an offset is of the kind, and its payload is as long as it may be and is all there
pub record GoodRecord (bytes : List ℕ) (kind : ℕ) (at : ℕ) : Type 0 where
  pub kind_right : kind_at bytes at ≡ kind
  pub size_right : wrong_size kind (size_at bytes at) ≡ false
  pub size_most : size_at bytes at ≤ most_of kind
  pub room : next_at bytes at ≤ length bytes

-- what is refused doesn't pass
pub not_passed : {A E : Type 0} {a : A} {e : E} → Err e ≡ Ok a → ⊥
not_passed same = let z : ◌≡◌ {A = ℕ} 0 1 = cc in omega arith

-- it passes, so none of the five tests holds
none-holds : (a b c d e : Bool) → fault_if a CutShort (fault_if b OtherKind (fault_if c WrongSize (fault_if d TooMany (fault_if e CutShort (Ok tt))))) ≡ Ok tt →
    (a ≡ false) × (b ≡ false) × (c ≡ false) × (d ≡ false) × (e ≡ false)
none-holds true b c d e h = absurd (not_passed h)
none-holds false true c d e h = absurd (not_passed h)
none-holds false false true d e h = absurd (not_passed h)
none-holds false false false true e h = absurd (not_passed h)
none-holds false false false false true h = absurd (not_passed h)
none-holds false false false false false h = (refl, refl, refl, refl, refl)

-- the first of the five tests that holds refuses it
module _ (bytes : List ℕ) (kind : ℕ) (at : ℕ) where
  pub head-cut : length bytes < at + head_length → record_fault bytes kind at ≡ Err CutShort
  unfolding record_fault
  head-cut short = rw (lt-ltb _ _ short)

  pub kind-wrong : at + head_length ≤ length bytes → (kind_at bytes at ≡ kind → ⊥) → record_fault bytes kind at ≡ Err OtherKind
  unfolding record_fault
  kind-wrong head other = rw (le-ltb _ _ head, ne_eqb _ _ other)

  module _ (head : at + head_length ≤ length bytes) (right : kind_at bytes at ≡ kind) where
    pub size-wrong : wrong_size kind (size_at bytes at) ≡ true → record_fault bytes kind at ≡ Err WrongSize
    unfolding record_fault
    size-wrong wrong = rw (le-ltb _ _ head, eq-eqb _ _ right, wrong)

    pub too_many : wrong_size kind (size_at bytes at) ≡ false → most_of kind < size_at bytes at → record_fault bytes kind at ≡ Err TooMany
    unfolding record_fault
    too_many sized many = rw (le-ltb _ _ head, eq-eqb _ _ right, sized, lt-ltb _ _ many)

    pub payload_cut : wrong_size kind (size_at bytes at) ≡ false → size_at bytes at ≤ most_of kind → length bytes < next_at bytes at →
        record_fault bytes kind at ≡ Err CutShort
    unfolding record_fault
    payload_cut sized few short = rw (le-ltb _ _ head, eq-eqb _ _ right, sized, le-ltb _ _ few, lt-ltb _ _ short)

  pub passes : GoodRecord bytes kind at → record_fault bytes kind at ≡ Ok tt
  unfolding record_fault
  passes p =
      let head : at + head_length ≤ length bytes = omega arith in
      rw (le-ltb _ _ head, eq-eqb _ _ p.kind_right, p.size_right, le-ltb _ _ p.size_most, le-ltb _ _ p.room)

  pub passed : record_fault bytes kind at ≡ Ok tt → GoodRecord bytes kind at
  unfolding record_fault
  passed none =
      let size = size_at bytes at in
      let all =
      none-holds (ltb (length bytes) (at + head_length)) (not (eqb (kind_at bytes at) kind)) (wrong_size kind size) (ltb (most_of kind) size)
      (ltb (length bytes) (next_at bytes at)) none
      in
      record {
        kind_right = eqb-true _ _ (not-false _ all.1);
        size_right = all.2;
        size_most = ltb-false _ _ all.3;
        room = ltb-false _ _ all.4;
      }

-- ---- how long a record of each kind is

pub options-size : {bytes : List ℕ} {at : ℕ} → GoodRecord bytes 1 at → size_at bytes at ≡ 12
options-size p = eqb-true _ _ (not-false _ p.size_right)

pub whole-size : {bytes : List ℕ} {kind at : ℕ} → eqb kind 1 ≡ false → eqb kind 4 ≡ false → GoodRecord bytes kind at → size_at bytes at % 12 ≡ 0
whole-size no-options no-margin p = eqb-true _ _ (not-false _ (rw (no-options, no-margin) at p.size_right))

pub points-size : {bytes : List ℕ} {at : ℕ} → GoodRecord bytes 2 at → size_at bytes at % 12 ≡ 0
points-size = whole-size refl refl

pub faces-size : {bytes : List ℕ} {at : ℕ} → GoodRecord bytes 3 at → size_at bytes at % 12 ≡ 0
faces-size = whole-size refl refl

pub margin-size : {bytes : List ℕ} {at : ℕ} → GoodRecord bytes 4 at → size_at bytes at % 4 ≡ 0
margin-size p = eqb-true _ _ (not-false _ p.size_right)

-- ---- the options

-- they pass, so the unit is known, and no other flag bit than 0 and 1 is set
options-hold : (u f : Bool) → fault_if (not u) UnknownUnit (fault_if f UnknownFlag (Ok tt)) ≡ Ok tt → (u ≡ true) × (f ≡ false)
options-hold false f e = absurd (not_passed e)
options-hold true true e = absurd (not_passed e)
options-hold true false e = (refl, refl)

pub options-passed : (bytes : List ℕ) → options_fault bytes ≡ Ok tt → (known_unit (unit_in bytes) ≡ true) × (flags_in bytes ≤ 3)
unfolding options_fault
options-passed bytes e =
    let o = options-hold (known_unit (unit_in bytes)) (ltb 3 (flags_in bytes)) e in
    (o.0, ltb-false 3 (flags_in bytes) o.1)

-- and back
pub options-pass : (bytes : List ℕ) → known_unit (unit_in bytes) ≡ true → flags_in bytes ≤ 3 → options_fault bytes ≡ Ok tt
unfolding options_fault
options-pass bytes known few = rw (known, le-ltb 3 (flags_in bytes) few) refl
