-- `scanfile::read_tail` meets its contract: a fourth record that passes is no longer than it may be. Assumes nothing.
use native.Mathlib.Omega.{arith}
use mathlib.Core.Path.{sym, ◌∙◌}
use Rattle.scanfile.proofs.FaultLaws.{passed}
use Rattle.scanfile.proofs.ScanLaws.{passes-at}
use Rattle.scanfile.proofs.read_tail.Goals as goal

pub read_end-requires-2-clause-end_most : goal.read_end-requires-2-clause-end_most
read_end-requires-2-clause-end_most c =
    let good = passed _ _ _ (passes-at _ _ (sym c.in_ok-check_record.was ∙ c.check_record.ensures)) in
    omega (arith, c.four_bytes-size.ensures, good.size_most)
