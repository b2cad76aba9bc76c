-- `queue::throw_out` meets its contract: the current ones are gathered, and made a heap. Assumes nothing.
use Rattle.queue.proofs.ThrowLaws.{kept-room, throwing}
use Rattle.queue.proofs.throw_out.Goals as goal

pub gather_current-kept-requires : goal.gather_current-kept-requires
gather_current-kept-requires c = record { fact_1 = c.requires.fact_1.few; fact_2 = c.requires.fact_1.enough; fact_3 = c.requires.fact_2 }

pub settle-requires : goal.settle-requires
settle-requires c = let held = kept-room c.requires.fact_1 c.gather_current-kept.ensures in
    record { fact_1 = held.0; fact_2 = held.1 }

pub returns : goal.returns
returns c = throwing c.requires.fact_1 c.gather_current-kept.ensures c.settle.ensures
