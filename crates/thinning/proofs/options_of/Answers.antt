-- `thinning::options_of` meets its contract: the limit is the one that is asked for.
-- Assumes nothing.
use Rattle.thinning.proofs.options_of.Goals as goal

pub returns : goal.returns
returns c = rw c.then_some.ensures
