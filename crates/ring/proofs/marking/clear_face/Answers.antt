-- `ring::marking::clear_face` meets its contract: the three points of a proper face are cleared one after another.
-- Assumes nothing.
use native.Mathlib.Omega.{arith}
use Rattle.walk.proofs.FaceLaws.{Corners}
use Rattle.ring.proofs.MarkLaws.{corners-read, face-cleared}
use Rattle.ring.proofs.marking.clear_face.Goals as goal
use Rattle.ring.proofs.marking.clear_face.Goals.{After-face_in-p}

-- the corners of the face that was read
points : (c : After-face_in-p) → Corners c.args.extent.v c.face_in-p.result
points c = corners-read _ c.face_in-p.ensures c.requires.fact_3

pub clear_mark-requires : goal.clear_mark-requires
clear_mark-requires c = omega (arith, points (goal.at.clear_mark-requires c).After-face_in-p)

pub clear_mark-requires-2 : goal.clear_mark-requires-2
clear_mark-requires-2 c = omega (arith, points (goal.at.clear_mark-requires-2 c).After-face_in-p)

pub clear_mark-requires-3 : goal.clear_mark-requires-3
clear_mark-requires-3 c = omega (arith, points (goal.at.clear_mark-requires-3 c).After-face_in-p)

pub returns : goal.returns
returns c =
    face-cleared _ c.face_in-p.ensures
    c.clear_mark.ensures c.clear_mark-2.ensures c.clear_mark-3.ensures
