-- `bits::narrow::narrow_normal` meets its contract, by the law for the normal range (`normal-is`). The sum fits, since rounding adds at most
-- one to what is left of the size (`closest-le`). Assumes nothing.
use Rattle.std.proofs.Common.{◌-◌, ◌*◌, ◌%◌, ◌^◌, arith, rules}
use Rattle.bits.proofs.HalfEven.{closest-le}
use Rattle.bits.proofs.NarrowLaws.{normal-is}
use Rattle.bits.proofs.narrow.narrow_normal.Goals as goal

pub overflow_cast-result : goal.overflow_cast-result
overflow_cast-result c = omega (arith, closest-le (c.args.b % 2 ^ 63 - (1023 - 127) * 2 ^ 52) (2 ^ 29))

pub overflow_add-result : goal.overflow_add-result
overflow_add-result c = omega (arith, closest-le (c.args.b % 2 ^ 63 - (1023 - 127) * 2 ^ 52) (2 ^ 29))

pub returns : goal.returns
returns c = rw (c.sign_of.ensures, c.nearest_even.ensures) (normal-is c.args.b (search rules) (omega arith) (omega arith))
