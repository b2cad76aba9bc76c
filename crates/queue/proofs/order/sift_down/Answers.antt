-- `queue::order::sift_down` meets its contract: the entry is written where the hole has come to rest.
-- Assumes nothing.
use Rattle.memory.proofs.EntryLaws.{room-only}
use Rattle.queue.proofs.HoleLaws.{sifted}
use Rattle.queue.proofs.order.sift_down.Goals as goal

pub set_entry-requires : goal.set_entry-requires
set_entry-requires c =
    record { fact_1 = c.sink-hole.ensures.inside; fact_2 = room-only c.sink-hole.ensures.only c.requires.fact_1.enough }

pub returns : goal.returns
returns c = sifted c.sink-hole.ensures c.set_entry.ensures
