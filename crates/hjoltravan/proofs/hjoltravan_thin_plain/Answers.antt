-- `hjoltravan::hjoltravan_thin_plain` meets its contract: what is told of a call by the plain walk, for the options that are asked for. Assumes nothing.
use Rattle.hjoltravan.proofs.CallLaws.{called}
use Rattle.hjoltravan.proofs.hjoltravan_thin_plain.Goals as goal

pub returns : goal.returns
returns c = called (rw c.options_of-options.ensures at c.thin_and_tell.ensures)
