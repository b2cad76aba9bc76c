-- `checks::check_faces` meets its contract: the first bad face is refused, by 8 or by 9, and past the last one none is.
-- Assumes nothing.
use Rattle.std.proofs.Common.{rules}
use Rattle.checks.proofs.FaceLaws.{eight, nine, one-more-passed, all-passed}
use Rattle.checks.proofs.check_faces.Goals as goal

pub returns-in_err-refuse_if : goal.returns-in_err-refuse_if
returns-in_err-refuse_if c = search (rules, eight)

pub returns-in_err-refuse_if-2 : goal.returns-in_err-refuse_if-2
returns-in_err-refuse_if-2 c = search (rules, nine)

pub loop-k-preserved : goal.loop-k-preserved
loop-k-preserved c = search (rules, one-more-passed)

pub returns : goal.returns
returns c = search (rules, all-passed)
