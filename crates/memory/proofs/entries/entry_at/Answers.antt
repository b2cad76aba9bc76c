-- `memory::entries::entry_at` meets its contract: each part is what was read of it.
-- Assumes nothing.
use mathlib.Core.Path.{refl}
use Rattle.memory.proofs.EntryLaws.{entry-path}
use Rattle.memory.proofs.entries.entry_at.Goals as goal

pub returns : goal.returns
returns c =
    entry-path c.entry_pair-pair.ensures c.cost_at.ensures c.point_at-place.ensures refl refl
