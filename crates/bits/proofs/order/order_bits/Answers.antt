-- `bits::order::order_bits` gives the key of every pattern. The branch is the test of `order_key`, and each side is read as a signed number:
-- m itself, and !m as `negsuc m`, which is -1 - m.
use Rattle.std.proofs.Common.{◌≡◌, ℕ, suc, ◌-◌, ◌^◌, ◌<◌, negsuc, ◌∙◌, arith, w64, to_z, le-ltb, lt-ltb}
use mir.Facts.{to_z_pos, to_z-neg}
use Rattle.bits.specs.Order.{order_key}
use Rattle.bits.proofs.order.order_bits.Goals as goal

-- !m, all of m's bits turned over, as a signed number
turned : (m : ℕ) → m < 2 ^ 63 → to_z w64 (2 ^ 64 - 1 - m) ≡ negsuc m
turned m h =
    let bits : 2 ^ 64 - 1 - m ≡ 2 ^ 64 - suc m = omega arith in
    rw bits (to_z-neg w64 m h)

pub returns-then-b-lt9223372036854775808 : goal.returns-then-b-lt9223372036854775808
unfolding order_key
returns-then-b-lt9223372036854775808 c = to_z_pos w64 c.if-b-lt9223372036854775808.true ∙ rw (lt-ltb _ _ c.if-b-lt9223372036854775808.true)

pub returns-else-b-lt9223372036854775808 : goal.returns-else-b-lt9223372036854775808
unfolding order_key
returns-else-b-lt9223372036854775808 c = turned (c.args.b - 2 ^ 63) (omega arith) ∙ rw (le-ltb _ _ c.if-b-lt9223372036854775808.false)
