-- `replies::write_reply` meets its contract: the file is refused or good, and each has its reply. Assumes nothing.
use mathlib.Core.Path.{sym, ◌∙◌}
use borrow.Author.Rules.{rules}
use Rattle.walk.proofs.ClosingLaws.{default-closed}
use Rattle.replies.specs.Replies.{reply_by, reply_of}
use Rattle.replies.proofs.write_reply.Goals as goal

pub write_good-requires : goal.write_good-requires
write_good-requires c = record { fact_1 = search rules; fact_2 = sym c.read_scan.ensures ∙ c.in-Ok.is }

pub returns-in-Err : goal.returns-in-Err
unfolding reply_of reply_by
returns-in-Err c =
    rw (sym c.read_scan.ensures ∙ c.in-Err.is, ← c.number.ensures, ← default-closed {closed = c.default.result} c.default.ensures) c.write_refusal.ensures

pub returns-in-Ok : goal.returns-in-Ok
unfolding reply_of
returns-in-Ok c = rw (sym c.read_scan.ensures ∙ c.in-Ok.is) c.write_good.ensures
