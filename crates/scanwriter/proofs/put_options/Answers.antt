-- `scanwriter::put_options` meets its contract, one part after another. Assumes nothing.
use Rattle.lists.proofs.PutLaws.{both}
use Rattle.scanwriter.proofs.put_options.Goals as goal

pub returns : goal.returns
returns c =
    both (rw c.from.ensures at c.put_head-at_unit.ensures) (both c.put_two-at_flags.ensures (both c.put_two-at_ratio.ensures (both c.put_four-at_limit.ensures c.put_four.ensures)))
