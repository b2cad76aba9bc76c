-- One part after another.
use Rattle.lists.proofs.PutLaws.{both}
use Rattle.text.proofs.put_number.Goals as goal

pub returns : goal.returns
returns g c = both c.put_decimal-next.ensures c.put_byte.ensures
