-- `bits::root::raised_low` meets its contract: the shifted digits and the lowered field are the pattern's number. Assumes nothing.
use Rattle.std.proofs.Common.{◌≡◌, ◌+◌, ◌-◌, ◌*◌, ◌/◌, ◌%◌, ◌^◌, mod-eq_of_lt, arith}
use Rattle.bits.proofs.RootScaled.{subnormal-number}
use Rattle.bits.proofs.root.raised_low.Goals as goal

pub returns : goal.returns
returns c =
    let whole : c.args.b * 2 ^ c.shift_of-shift.result % 2 ^ 32 ≡ c.args.b * 2 ^ c.shift_of-shift.result = mod-eq_of_lt (omega arith) in
    let x = (125 - c.shift_of-shift.result) * 0x80_0000 + c.args.b * 2 ^ c.shift_of-shift.result in
    let digits : 0x80_0000 + x % 0x80_0000 ≡ c.args.b * 2 ^ c.shift_of-shift.result = omega arith in
    let field : x / 0x80_0000 ≡ 126 - c.shift_of-shift.result = omega arith in
    rw whole (omega arith, rw (digits, field) (subnormal-number c.args.b c.shift_of-shift.result (omega arith) (omega arith)))
