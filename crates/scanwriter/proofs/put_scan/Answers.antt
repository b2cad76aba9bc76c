-- `scanwriter::put_scan` meets its contract, one record after another. Assumes nothing.
use native.Mathlib.Omega.{arith}
use Rattle.units.proofs.UnitLaws.{number_short}
use Rattle.scanwriter.proofs.WritingLaws.{scan-put}
use Rattle.scanwriter.proofs.put_scan.Goals as goal

pub put_options-second-requires : goal.put_options-second-requires
put_options-second-requires c = record { two_bytes = number_short _ c.requires.unit_known; room = omega arith }

pub returns : goal.returns
returns c =
    scan-put _ _ _ c.requires c.put_options-second.ensures (rw c.from.ensures at c.put_head-at_points.ensures) c.put_points-third.ensures
    (rw c.from-2.ensures at c.put_head-at_faces.ensures) c.put_faces.ensures
