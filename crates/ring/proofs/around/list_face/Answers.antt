-- `ring::around::list_face` meets its contract: the three corners one after another.
-- Assumes nothing.
use Rattle.walk.proofs.FaceLaws.{Corners, corners}
use Rattle.ring.proofs.TakeLaws.{taken_then, ready-after}
use Rattle.ring.proofs.around.list_face.Goals as goal
use Rattle.ring.proofs.around.list_face.Goals.{Start}

points : (c : Start) → Corners c.args.extent.v c.args.face
points c = corners c.args.extent.v c.args.face c.requires.fact_2

pub list_corner-first-requires : goal.list_corner-first-requires
list_corner-first-requires c =
    record { fact_1 = c.requires.fact_1; fact_2 = (points (goal.at.list_corner-first-requires c).Start).a_below }

pub list_corner-second-requires : goal.list_corner-second-requires
list_corner-second-requires c =
    record { fact_1 = ready-after c.requires.fact_1 c.list_corner-first.ensures; fact_2 = (points (goal.at.list_corner-second-requires c).Start).b_below }

pub list_corner-requires : goal.list_corner-requires
list_corner-requires c =
    record { fact_1 = ready-after (ready-after c.requires.fact_1 c.list_corner-first.ensures) c.list_corner-second.ensures; fact_2 = (points (goal.at.list_corner-requires c).Start).c_below }

pub returns : goal.returns
returns c =
    taken_then (taken_then c.list_corner-first.ensures c.list_corner-second.ensures) c.list_corner.ensures
