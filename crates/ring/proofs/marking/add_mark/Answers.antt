-- `ring::marking::add_mark` meets its contract: the one cell that is written is the point's mark.
-- Assumes nothing.
use borrow.Author.Rules.{rules}
use Rattle.ring.proofs.MarkLaws.{remarked-add}
use Rattle.ring.proofs.marking.add_mark.Goals as goal

pub returns : goal.returns
returns c =
    rw (c.set_mark.ensures, c.mark_at-old.ensures)
    (remarked-add _ c.requires.fact_1 (search rules))
