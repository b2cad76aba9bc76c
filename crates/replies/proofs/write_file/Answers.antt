-- `replies::write_file` meets its contract: what fits is written whole, and never refused. Assumes nothing.
use Rattle.replies.proofs.ReplyLaws.{file-replied, never-refused}
use Rattle.replies.proofs.write_file.Goals as goal

pub returns-in-Ok : goal.returns-in-Ok
returns-in-Ok c =
    file-replied c.args.closed (λ i. c.shared_slice_known-1.given i) (rw c.from-number.ensures at c.write_scan.ensures) c.in-Ok.is

pub returns-in-Err : goal.returns-in-Err
returns-in-Err c =
    absurd (never-refused c.args.unit c.requires.fact_1 c.requires.fact_2 (rw c.from-number.ensures at c.write_scan.ensures) c.in-Err.is)
