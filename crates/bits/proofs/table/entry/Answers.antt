-- `bits::table::entry` meets its contract: the row of k has no wrong entry. Assumes nothing.
use Rattle.std.proofs.Common.{rules}
use Rattle.bits.proofs.TableLaws.{entry-of}
use Rattle.bits.proofs.table.entry.Goals as goal

pub returns : goal.returns
returns c = entry-of c.args.k c.row.result (search rules) c.row.ensures
