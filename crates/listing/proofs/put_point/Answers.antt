-- `listing::put_point` meets its contract, one part after another. Assumes nothing.
use Rattle.lists.proofs.PutLaws.{both}
use Rattle.listing.proofs.put_point.Goals as goal

pub returns : goal.returns
returns c =
    both c.put_float-second.ensures (both c.put_float-third.ensures c.put_float.ensures)
