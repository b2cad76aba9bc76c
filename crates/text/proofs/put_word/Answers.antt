-- The word is copied whole.
use Rattle.std.proofs.Common.{arith}
use Rattle.lists.proofs.PutLaws.{copied}
use Rattle.text.proofs.put_word.Goals as goal

pub returns : goal.returns
returns c = copied c.copy_from_slice.ensures.after (omega arith) c.requires
