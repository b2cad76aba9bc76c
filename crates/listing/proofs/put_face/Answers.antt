-- `listing::put_face` meets its contract, one part after another. Assumes nothing.
use Rattle.lists.proofs.PutLaws.{both}
use Rattle.listing.proofs.put_face.Goals as goal

pub returns : goal.returns
returns c =
    both c.put_number-second.ensures (both c.put_number-third.ensures c.put_number.ensures)
