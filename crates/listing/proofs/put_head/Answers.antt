-- `listing::put_head` meets its contract, one line after another. Assumes nothing.
use Rattle.listing.specs.Texts.{head_text}
use Rattle.lists.proofs.PutLaws.{both}
use Rattle.listing.proofs.put_head.Goals as goal

pub returns : goal.returns
unfolding head_text
returns c =
    both c.put_line-units.ensures
    (both c.put_line-made.ensures (both c.put_line-count.ensures c.put_line.ensures))
