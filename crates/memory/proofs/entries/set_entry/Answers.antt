-- `memory::entries::set_entry` meets its contract: its numbers, its place and its cost are written, each into its own cells.
-- Assumes nothing.
use mathlib.Core.Path.{refl}
use Rattle.memory.proofs.EntryLaws.{entry_set}
use Rattle.memory.proofs.entries.set_entry.Goals as goal

pub returns : goal.returns
returns c =
    entry_set c.args.entry c.requires.fact_2 c.requires.fact_1 c.set_words.ensures c.set_point.ensures refl
