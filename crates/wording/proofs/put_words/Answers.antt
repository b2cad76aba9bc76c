-- One part after another.
use Rattle.std.proofs.Common.{arith}
use Rattle.lists.proofs.PutLaws.{both, wider}
use Rattle.wording.specs.Meanings.{words_line}
use Rattle.wording.proofs.put_words.Goals as goal

pub returns : goal.returns
unfolding words_line
returns c =
    let means = c.meaning-meaning.ensures in
    wider (omega (arith, means.short))
    (both c.put_word-first.ensures
    (both c.put_decimal-second.ensures
    (both c.put_word-third.ensures
    (both (rw means.words at c.put_word-fourth.ensures) (both (rw means.place at c.put_where-last.ensures) c.put_byte.ensures)))))
