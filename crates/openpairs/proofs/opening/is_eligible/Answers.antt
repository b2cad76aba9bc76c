-- `openpairs::opening::is_eligible` meets its contract: it is asked of the two vertices that were read.
-- Assumes nothing.
use mathlib.Core.Path.{ap, ◌∙◌}
use Rattle.placement.specs.Pairs.{eligible}
use Rattle.openpairs.specs.Clauses.Waiting.{fits}
use Rattle.openpairs.proofs.opening.is_eligible.Goals as goal

pub returns : goal.returns
unfolding fits
returns c =
    c.pair_eligible.ensures ∙ ap (λ ends. eligible c.args.bounds.limit c.args.bounds.size ends.0 ends.1) c.ends_at.ensures
