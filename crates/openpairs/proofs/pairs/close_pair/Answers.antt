-- `openpairs::pairs::close_pair` meets its contract: what was read at the last place was written at the one that is closed.
-- Assumes nothing.
use borrow.Author.Rules.{rules}
use Rattle.walk.specs.Pairs.{pair_of}
use Rattle.walk.proofs.SamePairs.{pair_path}
use Rattle.openpairs.proofs.OpenLaws.{closing}
use Rattle.openpairs.proofs.pairs.close_pair.Goals as goal

pub returns : goal.returns
returns c =
    closing (search rules) (search rules) (search rules)
    (pair_of c.keep_at-keep.result c.remove_at-remove.result)
    (pair_path c.keep_at-keep.ensures c.remove_at-remove.ensures)
    c.set_pair.ensures
