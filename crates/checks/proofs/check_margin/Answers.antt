-- `checks::check_margin` meets its contract: the first bad entry is refused, and past the last one none is.
-- Assumes nothing.
use Rattle.std.proofs.Common.{rules}
use Rattle.checks.proofs.MarginLaws.{place_fits, twelve, one-more-good, margin-passed}
use Rattle.checks.proofs.check_margin.Goals as goal

pub overflow_cast-k : goal.overflow_cast-k
overflow_cast-k c = place_fits _ _ c.loop-k.invariant c.requires

pub returns-in_err-refuse_if : goal.returns-in_err-refuse_if
returns-in_err-refuse_if c = search (rules, twelve)

pub loop-k-preserved : goal.loop-k-preserved
loop-k-preserved c = search (rules, one-more-good)

pub returns : goal.returns
returns c = search (rules, margin-passed)
