-- `replies::write_refusal` meets its contract: there is room. Assumes nothing.
use Rattle.replies.proofs.ReplyLaws.{refusal-replied}
use Rattle.replies.proofs.write_refusal.Goals as goal

pub returns : goal.returns
returns c = refusal-replied _ _ _ _ c.requires c.list_refusal.ensures c.unwrap_or-size.ensures
