-- `bits::table::no_row` says nothing of a number below 96: none is past all of these. Assumes nothing.
use Rattle.bits.proofs.TableLaws.{none-past}
use Rattle.bits.proofs.table.no_row.Goals as goal

pub returns : goal.returns
returns c = λ few. absurd (none-past 96 c.args.i few c.requires)
