-- `bits::narrow::narrow_bits` meets its contract: a test of the signed exponent is a test of the field, and what fails the test for the normal
-- range lies on one side of it. Assumes nothing.
use Rattle.std.proofs.Common.{◌+◌, ◌-◌, inl, inr}
use Rattle.bits.proofs.SignedExponent.{kept, is_below, not-below, is-from, not-from}
use Rattle.bits.proofs.narrow.narrow_bits.Goals as goal
use Rattle.bits.proofs.narrow.narrow_bits.Goals.{else-exponent-geminus126-via-then-exponent-geminus126+else-exponent-lt128, else-exponent-geminus126-via-else-exponent-geminus126}

pub narrow_normal-requires : goal.narrow_normal-requires
narrow_normal-requires c =
    (is-from c.args.b c.exponent_of-exponent.result c.exponent_of-exponent.ensures (1023 - 126) c.if-exponent-geminus126.true, is_below c.args.b c.exponent_of-exponent.result c.exponent_of-exponent.ensures (1023 + 128) c.if-exponent-lt128.true)

pub narrow_outside-requires : goal.narrow_outside-requires
narrow_outside-requires c = (
  elim c.else-exponent-geminus126.branch [
    | else-exponent-geminus126-via-then-exponent-geminus126+else-exponent-lt128 w ↦ inr (not-below c.args.b c.exponent_of-exponent.result c.exponent_of-exponent.ensures (1023 + 128) w.if-exponent-lt128.false)
    | else-exponent-geminus126-via-else-exponent-geminus126 w ↦ inl (not-from c.args.b c.exponent_of-exponent.result c.exponent_of-exponent.ensures (1023 - 126) w.if-exponent-geminus126.false)
  ],
  kept c.args.b c.exponent_of-exponent.result c.exponent_of-exponent.ensures,
)
