-- `roundtrip::write_and_read` meets its contract: what the reader finds is what the writer was given. Assumes nothing.
use mathlib.Core.Path.{sym}
use lib.Seq.{length-take-le}
use Rattle.std.specs.Prelude.{Ok}
use Rattle.scanwriter.specs.Written.{ScanWritten}
use Rattle.scanwriter.proofs.BackLaws.{written-within}
use Rattle.roundtrip.proofs.TripLaws.{few_points, few_faces, refused-back, room_back, all_back}
use Rattle.roundtrip.proofs.write_and_read.Goals as goal
use Rattle.roundtrip.proofs.write_and_read.Goals.{In-Ok}

-- what the writer left, where it wrote and where it refused
wrote : (c : In-Ok) →
    ScanWritten c.args.unit c.args.points.now c.args.faces.now c.args.file.now c.write_scan.new.file (Ok c.in-Ok.size)
wrote c = rw c.in-Ok.is at c.write_scan.ensures

pub returns-then-out_points-points : goal.returns-then-out_points-points
returns-then-out_points-points c = few_points _ _ _ c.args.file.now _ _ c.if-out_points-points.true

pub returns-then-out_faces-faces : goal.returns-then-out_faces-faces
returns-then-out_faces-faces c = few_faces _ _ _ c.args.file.now _ _ c.if-out_points-points.false c.if-out_faces-faces.true

pub slice_bounds-read_mesh-end : goal.slice_bounds-read_mesh-end
slice_bounds-read_mesh-end c = written-within (wrote (goal.at.slice_bounds-read_mesh-end c).In-Ok)

pub slice_bounds-read_mesh-end-in-Ok : goal.slice_bounds-read_mesh-end-in-Ok
slice_bounds-read_mesh-end-in-Ok c = sym (length-take-le _ _ (written-within (wrote (goal.at.slice_bounds-read_mesh-end-in-Ok c).In-Ok)))

pub read_mesh-requires : goal.read_mesh-requires
read_mesh-requires c =
    room_back _ _ _ _ _ _ c.if-out_points-points.false c.if-out_faces-faces.false (wrote (goal.at.read_mesh-requires c).In-Ok) c.type_inv.points

pub returns-in-Ok : goal.returns-in-Ok
returns-in-Ok c =
    all_back _ _ _ _ _ _ c.if-out_points-points.false c.if-out_faces-faces.false (wrote (goal.at.returns-in-Ok c).In-Ok) c.type_inv.points c.read_mesh.ensures

pub returns-in-Err : goal.returns-in-Err
returns-in-Err c =
    refused-back _ _ _ _ _ _ c.if-out_points-points.false c.if-out_faces-faces.false (rw c.in-Err.is at c.write_scan.ensures)
