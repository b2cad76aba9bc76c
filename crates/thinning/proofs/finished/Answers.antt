-- `thinning::finished` meets its contract: the outcome is answered and written, and the work memory is cleared.
-- Assumes nothing.
use borrow.Author.Rules.{rules}
use Rattle.thinning.proofs.AdmittedLaws.{clear-asked, left}
use Rattle.thinning.proofs.finished.Goals as goal

pub answered-answer-requires : goal.answered-answer-requires
answered-answer-requires c =
    record { fact_1 = c.requires.tidy; fact_2 = search rules; fact_3 = c.requires.points_fit; fact_4 = c.requires.faces_fit; fact_5 = (c.requires.fixed_few, c.requires.folds_few) }

pub clear-requires : goal.clear-requires
clear-requires c =
    clear-asked c.requires.working c.answered-answer.ensures

pub returns : goal.returns
returns c =
    left c.args.came c.answered-answer.ensures c.clear.ensures
