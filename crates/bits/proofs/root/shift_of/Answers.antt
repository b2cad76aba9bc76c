-- `bits::root::shift_of` meets its contract, by the count of leading zeros (`leading`). Assumes nothing.
use Rattle.std.proofs.Common.{arith}
use Rattle.bits.proofs.RootScaled.{leading}
use Rattle.bits.proofs.root.shift_of.Goals as goal

pub overflow_sub-result : goal.overflow_sub-result
overflow_sub-result c = (leading c.args.b (omega arith) (omega arith)).enough

pub returns : goal.returns
returns c =
    let l = leading c.args.b (omega arith) (omega arith) in
    (l.shift, l.low, l.high)
