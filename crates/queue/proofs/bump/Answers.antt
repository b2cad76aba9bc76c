-- `queue::bump` meets its contract: what is written is one more than the stamp that was read.
-- Assumes nothing.
use Rattle.queue.proofs.bump.Goals as goal

pub returns : goal.returns
returns c =
    rw (c.set_stamp.ensures, c.stamp_at-old.ensures)
