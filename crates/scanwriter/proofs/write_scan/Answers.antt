-- What fits is written whole, and a refusal writes nothing.
use Rattle.std.proofs.Common.{sym, ◌∙◌}
use Rattle.std.proofs.lemmas.Result.{err_from_is_err_and}
use Rattle.scanwriter.proofs.WritingLaws.{fits, all-written, none_written}
use Rattle.scanwriter.proofs.write_scan.Goals as goal

pub put_scan-requires : goal.put_scan-requires
put_scan-requires c = (fits _ _ _ _ _ (sym c.writing_of.ensures ∙ c.in_ok-size.was)).0

pub returns : goal.returns
returns c = all-written _ _ _ _ (sym c.in_ok-size.was ∙ c.writing_of.ensures) c.put_scan.ensures

pub returns-in_err-size : goal.returns-in_err-size
returns-in_err-size c =
    let same = err_from_is_err_and c.from_residual.result c.from_residual.ensures.1 in
    rw (same.1, same.2) (none_written _ _ _ _ (sym c.in_err-size.was ∙ c.writing_of.ensures))
