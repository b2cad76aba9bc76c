-- `bits::narrow::narrow_subnormal` meets its contract, by the law for what is below the normal range (`subnormal-is`). The signed difference is
-- the number of places to drop (`places`). Assumes nothing.
use Rattle.std.proofs.Common.{◌≡◌, ◌-◌, ◌^◌, arith, rules}
use lib.Ieee.Nearest.{closest}
use Rattle.bits.specs.Clauses.{field}
use Rattle.bits.proofs.NarrowLaws.{digits, subnormal-is, subnormal-small}
use Rattle.bits.proofs.SignedExponent.{places, places-kept}
use Rattle.bits.proofs.narrow.narrow_subnormal.Goals as goal
use Rattle.bits.proofs.narrow.narrow_subnormal.Goals.{After-nearest_even}

-- what `nearest_even` is asked for, by the field
rounded : (c : After-nearest_even)
    → c.nearest_even.result ≡ closest (digits c.args.b) (2 ^ (1023 - 97 - field c.args.b))
rounded c =
    rw (places-kept c.args.b c.args.exponent c.requires.2 (omega arith)) at c.nearest_even.ensures

pub overflow_sub-places-2 : goal.overflow_sub-places-2
overflow_sub-places-2 c = rw (places c.args.b c.args.exponent c.requires.2 (omega arith)) (record { sfits = omega arith })

pub overflow_cast-places : goal.overflow_cast-places
overflow_cast-places c = rw (places-kept c.args.b c.args.exponent c.requires.2 (omega arith)) (tt, record { fits = omega arith })

pub nearest_even-requires : goal.nearest_even-requires
nearest_even-requires c =
    rw (places-kept c.args.b c.args.exponent c.requires.2 (omega arith)) (omega arith, omega arith, omega arith)

pub overflow_cast-result : goal.overflow_cast-result
overflow_cast-result c = let e = rounded (goal.at.overflow_cast-result c).After-nearest_even in omega (arith, subnormal-small c.args.b (omega arith))

pub overflow_add-result : goal.overflow_add-result
overflow_add-result c = let e = rounded (goal.at.overflow_add-result c).After-nearest_even in omega (arith, subnormal-small c.args.b (omega arith))

pub returns : goal.returns
returns c = rw (c.sign_of.ensures, rounded (goal.at.returns c).After-nearest_even) (subnormal-is c.args.b (search rules) (omega arith) (omega arith))
