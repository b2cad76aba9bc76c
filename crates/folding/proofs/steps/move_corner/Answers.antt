-- `folding::steps::move_corner` meets its contract: the two writes, one after the other, are `moved`.
-- Assumes nothing.
use mathlib.Core.Path.{◌∙◌}
use Rattle.folding.specs.Clauses.Steps.{moved}
use Rattle.folding.proofs.steps.move_corner.Goals as goal

pub returns : goal.returns
unfolding moved
returns c = c.push_corner.ensures ∙ rw c.set_corner.ensures
