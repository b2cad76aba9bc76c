-- `text::put_line` meets its contract, one part after another. Assumes nothing.
use Rattle.lists.proofs.PutLaws.{both}
use Rattle.text.proofs.put_line.Goals as goal

pub returns : goal.returns
returns c = both c.put_word-next.ensures c.put_number.ensures
