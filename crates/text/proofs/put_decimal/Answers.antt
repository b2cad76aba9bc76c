-- No more digits are counted than there is room for.
use Rattle.std.proofs.Common.{◌-◌, arith}
use Rattle.text.proofs.DigitLaws.{digit-count-most, counted-stored}
use Rattle.text.proofs.put_decimal.Goals as goal

pub put_digits-requires-clause-room : goal.put_digits-requires-clause-room
put_digits-requires-clause-room g c =
    let written = g.met.N.Decimal.written c.args.n c.into-value.result c.into-value.ensures in
    omega (arith, digit-count-most (c.MOST.result - 1) c.into-value.result, written.0)

pub returns : goal.returns
returns g c =
    let written = g.met.N.Decimal.written c.args.n c.into-value.result c.into-value.ensures in
    counted-stored _ _ written (rw c.MOST.ensures at c.digit_count-k.ensures) c.put_digits.ensures
