-- `hjoltravan::thin_and_tell` meets its contract: what the entry answers, told in five numbers and three. Assumes nothing.
use Rattle.hjoltravan.proofs.CallLaws.{called-with-folds}
use Rattle.hjoltravan.proofs.thin_and_tell.Goals as goal

pub returns : goal.returns
returns c = called-with-folds c.thin-r.ensures c.tell.ensures.five c.tell.ensures.three
