-- A word, and the place after it.
use Rattle.std.proofs.Common.{sym, ◌∙◌}
use Rattle.wording.proofs.MeaningLaws.{no_place, place-put}
use Rattle.wording.proofs.put_where.Goals as goal

pub returns-then-is_empty : goal.returns-then-is_empty
returns-then-is_empty c = no_place _ _ _ _ (sym c.is_empty.ensures ∙ c.if-is_empty.true)

pub returns : goal.returns
returns c =
    place-put _ _ (sym c.is_empty.ensures ∙ c.if-is_empty.false) c.put_word-next.ensures c.put_number.ensures
