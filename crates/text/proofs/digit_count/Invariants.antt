-- The digits passed and those of what is left are those of the number.
use Rattle.std.proofs.Common.{◌≡◌, ◌+◌, ◌-◌}
use Rattle.text.specs.Digits.{digit_count}
use Rattle.text.proofs.digit_count.Given as goal

abbrev pub invariant-loop-k : goal.invariant-loop-k
invariant-loop-k l = digit_count (l.most - l.k) l.rest + l.k ≡ digit_count (l.most - 1) l.n + 1
