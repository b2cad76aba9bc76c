-- `bits::root::whole_root` meets its contract: the two tests are the contract, and so is what `corrected` ensures. Assumes nothing.
use Rattle.std.proofs.Common.{◌≤◌, mul-le-mul_right, arith}
use Rattle.bits.proofs.root.whole_root.Goals as goal

pub overflow_mul-square : goal.overflow_mul-square
overflow_mul-square c =
    let small : c.first_guess-r.result ≤ 0x3ff_ffff = omega arith in
    omega (arith, mul-le-mul_right c.first_guess-r.result small)
