-- `scanfile::told::limit_pattern` meets its contract, by cases on the limit. Assumes nothing.
use Rattle.scanfile.proofs.told.limit_pattern.Goals as goal

pub returns-in-Some : goal.returns-in-Some
returns-in-Some c = rw c.in-Some.is c.four_bytes.ensures
