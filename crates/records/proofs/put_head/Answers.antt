-- `records::put_head` meets its contract, one part after another. Assumes nothing.
use Rattle.lists.proofs.PutLaws.{both}
use Rattle.records.proofs.put_head.Goals as goal

pub returns : goal.returns
returns c = both c.put_four-after_size.ensures c.put_two.ensures
