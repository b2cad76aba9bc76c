-- `bits::narrow::narrow_outside` meets its contract, by the laws for zero, a NaN and infinity. A test of the signed exponent is a test of the
-- field, and what is negative and not subnormal is below 2^-150 (`tiny`). Assumes nothing.
use Rattle.std.proofs.Common.{◌+◌, ◌-◌, ◌<◌, ◌≤◌, sym, ⊎_elim, arith, rules}
use Rattle.bits.specs.Clauses.{field}
use Rattle.bits.proofs.NarrowLaws.{zero_is, nan_is, infinity-is}
use Rattle.bits.proofs.SignedExponent.{kept, is_below, not-below, is-from, not-from}
use Rattle.bits.proofs.narrow.narrow_outside.Goals as goal
use Rattle.bits.proofs.narrow.narrow_outside.Goals.{Then-exponent-lt0, else-exponent-geminus150-via-then-exponent-geminus150+else-exponent-ltminus126, else-exponent-geminus150-via-else-exponent-geminus150}

-- a negative exponent that is not subnormal lies below -150
tiny : (c : Then-exponent-lt0) → field c.args.b < 1023 - 150
tiny c =
    let below : field c.args.b < 1023 = is_below c.args.b c.args.exponent c.requires.1 1023 c.if-exponent-lt0.true in
    elim c.else-exponent-geminus150.branch [
      | else-exponent-geminus150-via-then-exponent-geminus150+else-exponent-ltminus126 w ↦ ⊎_elim (λ l. omega (arith, not-below c.args.b c.args.exponent c.requires.1 (1023 - 126) w.if-exponent-ltminus126.false)) (λ l. omega arith) c.requires.0
      | else-exponent-geminus150-via-else-exponent-geminus150 w ↦ not-from c.args.b c.args.exponent c.requires.1 (1023 - 150) w.if-exponent-geminus150.false
    ]

pub narrow_subnormal-requires : goal.narrow_subnormal-requires
narrow_subnormal-requires c =
    (is-from c.args.b c.args.exponent c.requires.1 (1023 - 150) c.if-exponent-geminus150.true, is_below c.args.b c.args.exponent c.requires.1 (1023 - 126) c.if-exponent-ltminus126.true, kept c.args.b c.args.exponent c.requires.1)

pub returns-then-b-gt9218868437227405312 : goal.returns-then-b-gt9218868437227405312
returns-then-b-gt9218868437227405312 c = sym (nan_is c.args.b (search rules))

pub returns-then-exponent-lt0 : goal.returns-then-exponent-lt0
returns-then-exponent-lt0 c = rw c.sign_of.ensures (zero_is c.args.b (search rules) (tiny (goal.at.returns-then-exponent-lt0 c).Then-exponent-lt0))

pub returns : goal.returns
returns c =
    let above : 1023 ≤ field c.args.b = not-below c.args.b c.args.exponent c.requires.1 1023 c.if-exponent-lt0.false in
    let large : 1023 + 128 ≤ field c.args.b = ⊎_elim (λ l. omega arith) (λ l. l) c.requires.0 in
    rw c.sign_of-2.ensures (infinity-is c.args.b (search rules) large (search rules))
