-- One part after another.
use Rattle.lists.proofs.PutLaws.{both}
use Rattle.thin.proofs.files.name_beside.Goals as goal

pub returns : goal.returns
returns c = both c.put_word-suffix.ensures (both c.put_word-tens.ensures (both c.put_byte-ones.ensures c.put_byte.ensures))
