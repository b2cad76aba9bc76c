-- `roundtrip::read_mesh` meets its contract: a file has one head. Assumes nothing.
use native.Mathlib.Omega.{arith}
use mathlib.Core.Path.{◌≡◌, sym, ◌∙◌}
use Rattle.std.specs.Prelude.{Ok}
use Rattle.scanfile.specs.Scans.{scan_of}
use Rattle.scanfile.proofs.GoodLaws.{good-file}
use Rattle.roundtrip.proofs.TripLaws.{good-read, none_read}
use Rattle.roundtrip.proofs.read_mesh.Goals as goal
use Rattle.roundtrip.proofs.read_mesh.Goals.{In-Ok}

-- what the reader said
is-good : (c : In-Ok) → scan_of c.args.bytes.now ≡ Ok c.in-Ok.head
is-good c = sym c.read_scan.ensures ∙ c.in-Ok.is

pub read_points-requires : goal.read_points-requires
read_points-requires c =
    let g = good-file _ _ (is-good (goal.at.read_points-requires c).In-Ok) in
    record { there = omega (arith, g.there); room = c.requires.points_room _ (is-good (goal.at.read_points-requires c).In-Ok) }

pub read_faces-requires : goal.read_faces-requires
read_faces-requires c =
    let g = good-file _ _ (is-good (goal.at.read_faces-requires c).In-Ok) in
    record { there = omega (arith, g.there); room = c.requires.faces_room _ (is-good (goal.at.read_faces-requires c).In-Ok) }

pub returns-in-Ok : goal.returns-in-Ok
returns-in-Ok c =
    rw c.from.ensures
    (good-read _ _ (is-good (goal.at.returns-in-Ok c).In-Ok) c.read_points.ensures c.read_faces.ensures)

pub returns-in-Err : goal.returns-in-Err
returns-in-Err c = none_read _ _ _ (sym c.read_scan.ensures ∙ c.in-Err.is)
