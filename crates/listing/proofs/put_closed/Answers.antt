-- `listing::put_closed` meets its contract, one part after another. Assumes nothing.
use Rattle.listing.specs.Texts.{closed_text}
use Rattle.lists.proofs.PutLaws.{both}
use Rattle.listing.proofs.put_closed.Goals as goal

pub returns : goal.returns
unfolding closed_text
returns c =
    both c.put_word-first.ensures
    (both c.put_number-second.ensures (both c.put_number-third.ensures c.put_number.ensures))
