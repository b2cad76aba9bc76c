-- `checks::check_margin` meets its contract. The loop's invariant: none of the entries passed is bad.
-- Assumes nothing.
use Rattle.checks.proofs.MarginLaws.{Ascends}
use Rattle.checks.proofs.check_margin.Given as goal

abbrev pub invariant-loop-k : goal.invariant-loop-k
invariant-loop-k l = Ascends l.v l.margin l.k
