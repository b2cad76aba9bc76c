-- One digit less is left at each step.
use Rattle.std.proofs.Common.{◌≡◌, ◌+◌, ◌-◌, arith}
use Rattle.text.proofs.DigitLaws.{one_place, last-place, next_place}
use Rattle.text.proofs.digit_count.Goals as goal

pub returns-then-rest-lt10 : goal.returns-then-rest-lt10
returns-then-rest-lt10 c =
    omega (arith, one_place (c.args.most - c.loop-k.k) c.loop-k.rest c.if-rest-lt10.true)

pub loop-k-preserved : goal.loop-k-preserved
loop-k-preserved c =
    let less : c.args.most - (c.loop-k.k + 1) ≡ c.args.most - c.loop-k.k - 1 = omega arith in
    rw less (omega (arith, next_place (c.args.most - c.loop-k.k) c.loop-k.rest (omega arith) (omega arith)))

pub returns : goal.returns
returns c = omega (arith, last-place (c.args.most - c.loop-k.k) c.loop-k.rest (omega arith))
