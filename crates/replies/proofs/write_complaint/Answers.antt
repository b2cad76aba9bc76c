-- `replies::write_complaint` meets its contract, one part after another. Assumes nothing.
use Rattle.lists.proofs.PutLaws.{both}
use Rattle.replies.proofs.write_complaint.Goals as goal

pub returns : goal.returns
returns c = both c.put_word-next.ensures c.put_words.ensures
