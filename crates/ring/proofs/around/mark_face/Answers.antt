-- `ring::around::mark_face` meets its contract: the three corners one after another are the points of the face.
-- Assumes nothing.
use borrow.Author.Rules.{rules}
use Rattle.walk.proofs.FaceLaws.{Corners, corners}
use Rattle.ring.specs.Clauses.Wanting.{wanted}
use Rattle.ring.proofs.WantedLaws.{marks-face}
use Rattle.ring.proofs.around.mark_face.Goals as goal
use Rattle.ring.proofs.around.mark_face.Goals.{Start}

points : (c : Start) → Corners c.args.extent.v c.args.face
points c = corners c.args.extent.v c.args.face c.requires.fact_2

pub mark_corner-requires : goal.mark_corner-requires
mark_corner-requires c = record { fact_1 = search rules; fact_2 = (points (goal.at.mark_corner-requires c).Start).a_below }

pub mark_corner-requires-2 : goal.mark_corner-requires-2
mark_corner-requires-2 c = record { fact_1 = search rules; fact_2 = (points (goal.at.mark_corner-requires-2 c).Start).b_below }

pub mark_corner-requires-3 : goal.mark_corner-requires-3
mark_corner-requires-3 c =
    record { fact_1 = search rules; fact_2 = (points (goal.at.mark_corner-requires-3 c).Start).c_below }

pub returns : goal.returns
returns c =
    marks-face (λ y. wanted c.args.which c.args.x y c.args.face) c.args.face c.mark_corner.ensures c.mark_corner-2.ensures
    c.mark_corner-3.ensures
