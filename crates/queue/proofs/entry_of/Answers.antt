-- `queue::entry_of` meets its contract: both stamps are the present ones. Assumes nothing.
use mathlib.Core.Path.{refl}
use Rattle.memory.proofs.EntryLaws.{entry-path}
use Rattle.queue.proofs.entry_of.Goals as goal

pub returns : goal.returns
returns c = entry-path refl refl refl c.stamp_at.ensures c.stamp_at-2.ensures
