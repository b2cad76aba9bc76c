-- `hjoltravan::hjoltravan_thin_folds` meets its contract: what is told of a call by the heap walk, for the options that are asked for. Assumes nothing.
use Rattle.hjoltravan.proofs.hjoltravan_thin_folds.Goals as goal

pub returns : goal.returns
returns c = rw c.options_of-options.ensures at c.thin_and_tell.ensures
