-- `replies::write_listing` meets its contract: there is room. Assumes nothing.
use Rattle.replies.proofs.ReplyLaws.{listing-replied}
use Rattle.replies.proofs.write_listing.Goals as goal

pub returns : goal.returns
returns c =
    listing-replied _ _ _ _ _ c.requires.fact_1 c.requires.fact_2 (rw c.from-number.ensures at c.list_mesh.ensures) c.unwrap_or-size.ensures
