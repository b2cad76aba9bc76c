-- `ring::marking::mark_face` meets its contract: the three points of a proper face differ, so each gets 1 more.
-- Assumes nothing.
use native.Mathlib.Omega.{arith}
use Rattle.walk.proofs.FaceLaws.{Corners}
use Rattle.ring.proofs.MarkLaws.{remarked-most, corners-read, face-marked}
use Rattle.ring.proofs.marking.mark_face.Goals as goal
use Rattle.ring.proofs.marking.mark_face.Goals.{After-face_in-p}

-- the corners of the face that was read
points : (c : After-face_in-p) → Corners c.args.extent.v c.face_in-p.result
points c = corners-read _ c.face_in-p.ensures c.requires.fact_3

pub add_mark-requires : goal.add_mark-requires
add_mark-requires c =
    let p = points (goal.at.add_mark-requires c).After-face_in-p in
    omega (arith, c.requires.fact_4 _ p.a_below)

pub add_mark-requires-2 : goal.add_mark-requires-2
add_mark-requires-2 c =
    let p = points (goal.at.add_mark-requires-2 c).After-face_in-p in
    omega (arith, c.requires.fact_4 _ p.b_below, remarked-most _ c.add_mark.ensures _ p.b_below)

pub add_mark-requires-3 : goal.add_mark-requires-3
add_mark-requires-3 c =
    let p = points (goal.at.add_mark-requires-3 c).After-face_in-p in
    omega (
      arith,
      c.requires.fact_4 _ p.c_below,
      remarked-most _ c.add_mark.ensures _ p.c_below,
      remarked-most _ c.add_mark-2.ensures _ p.c_below,
    )

pub returns : goal.returns
returns c =
    face-marked _ c.face_in-p.ensures c.requires.fact_3
    c.add_mark.ensures c.add_mark-2.ensures c.add_mark-3.ensures
