-- `listing::list_refusal` meets its contract, one part after another. Assumes nothing.
use borrow.Author.Tests.{le-leb, lt-leb}
use Rattle.listing.specs.Texts.{refusal_text}
use Rattle.lists.proofs.PutLaws.{both}
use Rattle.listing.proofs.TextLaws.{not-printed, all-printed}
use Rattle.listing.proofs.list_refusal.Goals as goal

pub returns-then-out-lt35 : goal.returns-then-out-lt35
returns-then-out-lt35 c = not-printed (lt-leb _ _ c.if-out-lt35.true)

pub returns : goal.returns
unfolding refusal_text
returns c =
    all-printed (le-leb _ _ c.if-out-lt35.false) c.if-out-lt35.false (both (both c.put_word-next.ensures c.put_decimal-after.ensures) c.put_line.ensures)
