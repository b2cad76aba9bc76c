-- `ring::marking::clear_mark` meets its contract: the one cell that is written is the point's mark.
-- Assumes nothing.
use borrow.Author.Rules.{rules}
use Rattle.ring.proofs.MarkLaws.{remarked-set}
use Rattle.ring.proofs.marking.clear_mark.Goals as goal

pub returns : goal.returns
returns c = rw c.set_mark.ensures (remarked-set _ 0 c.requires.fact_1 (search rules))
