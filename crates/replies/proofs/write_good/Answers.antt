-- `replies::write_good` meets its contract: a good file's points, faces and margin are all there, and are what is thinned. Assumes nothing.
use Prim.Native.Nat.{◌*◌, ◌≤◌}
use native.Mathlib.Omega.{arith}
use mathlib.Core.Path.{sym}
use borrow.Author.Rules.{rules}
use lib.ListN.{length}
use lib.Seq.{length-take-le}
use Rattle.scanfile.specs.Contents.{points_of, face_numbers_of, margin_of}
use Rattle.scanfile.specs.Facts.{GoodFile}
use Rattle.scanfile.proofs.GoodLaws.{good-file, margin-there}
use Rattle.replies.specs.Replies.{reply_by}
use Rattle.replies.proofs.ReplyLaws.{over-there, over-taken, points-length, faces-length, margin-length}
use Rattle.replies.proofs.write_good.Goals as goal
use Rattle.replies.proofs.write_good.Goals.{After-read_faces, After-read_margin, After-read_points, Start}

-- what is known of the file
good : (c : Start) → GoodFile c.args.bytes.now c.args.head
good c = good-file _ _ c.requires.fact_2

-- ---- its points are all there, its faces and its margin
points_there : (c : After-read_points) → 3 * c.args.head.points ≤ length c.read_points.new.out
points_there c =
    over-there (points_of c.args.bytes.now c.args.head.points) c.zeros-points.result (3 * c.args.head.points)
    (points-length c.args.bytes.now c.args.head.points) c.read_points.ensures

faces_there : (c : After-read_faces) → 3 * c.args.head.faces ≤ length c.read_faces.new.out
faces_there c =
    over-there (face_numbers_of c.args.bytes.now c.args.head.points c.args.head.faces) c.zeros-faces.result (3 * c.args.head.faces)
    (faces-length c.args.bytes.now c.args.head.points c.args.head.faces) c.read_faces.ensures

all_there : (c : After-read_margin) → c.args.head.margin ≤ length c.read_margin.new.out
all_there c =
    over-there (margin_of c.args.bytes.now c.args.head.points c.args.head.faces c.args.head.margin) c.zeros-margin.result c.args.head.margin
    (margin-length c.args.bytes.now c.args.head.points c.args.head.faces c.args.head.margin) c.read_margin.ensures

-- ---- the needs
pub read_points-requires : goal.read_points-requires
read_points-requires c = let g = good (goal.at.read_points-requires c).Start in record { there = omega arith; room = omega arith }

pub read_faces-requires : goal.read_faces-requires
read_faces-requires c = let g = good (goal.at.read_faces-requires c).Start in record { there = omega arith; room = omega arith }

pub read_margin-requires : goal.read_margin-requires
read_margin-requires c =
    let g = good (goal.at.read_margin-requires c).Start in
    record { before = g.there; there = margin-there g; room = omega arith }

pub overflow_mul-points_end : goal.overflow_mul-points_end
overflow_mul-points_end c = let g = good (goal.at.overflow_mul-points_end c).Start in search rules

pub overflow_mul-faces_end : goal.overflow_mul-faces_end
overflow_mul-faces_end c = let g = good (goal.at.overflow_mul-faces_end c).Start in search rules

pub slice_bounds-points-end : goal.slice_bounds-points-end
slice_bounds-points-end c = points_there (goal.at.slice_bounds-points-end c).After-read_points

pub slice_bounds-write_thinned-end : goal.slice_bounds-write_thinned-end
slice_bounds-write_thinned-end c = sym (length-take-le _ _ (points_there (goal.at.slice_bounds-write_thinned-end c).After-read_points))

pub slice_bounds-faces-end : goal.slice_bounds-faces-end
slice_bounds-faces-end c = faces_there (goal.at.slice_bounds-faces-end c).After-read_faces

pub slice_bounds-write_thinned-end-2 : goal.slice_bounds-write_thinned-end-2
slice_bounds-write_thinned-end-2 c = sym (length-take-le _ _ (faces_there (goal.at.slice_bounds-write_thinned-end-2 c).After-read_faces))

pub slice_bounds-margin-end : goal.slice_bounds-margin-end
slice_bounds-margin-end c = all_there (goal.at.slice_bounds-margin-end c).After-read_margin

pub slice_bounds-write_thinned-end-3 : goal.slice_bounds-write_thinned-end-3
slice_bounds-write_thinned-end-3 c = sym (length-take-le _ _ (all_there (goal.at.slice_bounds-write_thinned-end-3 c).After-read_margin))

pub write_thinned-requires : goal.write_thinned-requires
write_thinned-requires c =
    c.requires.fact_1

pub returns : goal.returns
unfolding reply_by
returns c =
    let points_are = over-taken (points_of c.args.bytes.now c.args.head.points) c.zeros-points.result (3 * c.args.head.points)
    (points-length c.args.bytes.now c.args.head.points) c.read_points.ensures in
    let faces_are = over-taken (face_numbers_of c.args.bytes.now c.args.head.points c.args.head.faces) c.zeros-faces.result (3 * c.args.head.faces)
    (faces-length c.args.bytes.now c.args.head.points c.args.head.faces) c.read_faces.ensures in
    let margin-is = over-taken (margin_of c.args.bytes.now c.args.head.points c.args.head.faces c.args.head.margin) c.zeros-margin.result c.args.head.margin
    (margin-length c.args.bytes.now c.args.head.points c.args.head.faces c.args.head.margin) c.read_margin.ensures in
    rw (points_are, faces_are, margin-is) at c.write_thinned.ensures
