-- `queue::empty` meets its contract: the stamps are filled with 0. Assumes nothing.
use native.Mathlib.Omega.{arith}
use Rattle.lists.proofs.WrittenLaws.{written_from}
use Rattle.queue.proofs.EmptyLaws.{emptied}
use Rattle.queue.proofs.empty.Goals as goal

pub fill-requires : goal.fill-requires
fill-requires c = rw c.stamps_from.ensures (omega (arith, c.requires.room.long))

pub returns : goal.returns
returns c = emptied c.requires (written_from c.stamps_from.ensures c.fill.ensures)
