-- `scanfile::told::tell_scan` meets its contract: what is told of a good file is there, and within the limits. Assumes nothing.
use native.Mathlib.Omega.{arith}
use mathlib.Core.Path.{sym, ◌∙◌}
use Rattle.scanfile.proofs.GoodLaws.{good-file}
use Rattle.scanfile.proofs.told.tell_scan.Goals as goal

pub tell_good-requires : goal.tell_good-requires
tell_good-requires c =
    let g = good-file _ _ (sym c.read_scan.ensures ∙ c.in-Ok.is) in
    record { there = omega (arith, g.there); points_most = g.points_most; faces_most = g.faces_most; margin_most = g.margin_most }
