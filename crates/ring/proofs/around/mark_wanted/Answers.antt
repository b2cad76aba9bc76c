-- `ring::around::mark_wanted` meets its contract. The loop's invariant: the points that the faces passed ask for are marked.
-- Assumes nothing.
use borrow.Author.Rules.{rules}
use Rattle.ring.specs.Clauses.Taking.{Framed}
use Rattle.ring.proofs.FrameLaws.{framed-marks, framed-room, framed-list, read-listed, read-proper}
use Rattle.ring.proofs.WantedLaws.{marking-none, marking-next, marking-all}
use Rattle.ring.proofs.around.mark_wanted.Goals as goal
use Rattle.ring.proofs.around.mark_wanted.Goals.{At-loop-i}

-- what a turn begins with: the memory as it was, but for marks
framed : (c : At-loop-i) → Framed c.args.extent.v c.args.extent.f c.args.w.now c.loop-i.w
framed c = framed-marks c.loop-i.invariant.so_far.but

pub loop-i-init : goal.loop-i-init
loop-i-init c = marking-none

pub face_near-face-requires : goal.face_near-face-requires
face_near-face-requires c =
    record { fact_1 = framed-room (framed (goal.at.face_near-face-requires c).At-loop-i) c.requires.fact_1; fact_2 = search rules; fact_3 = (framed-list (framed (goal.at.face_near-face-requires c).At-loop-i) c.requires.fact_2 c.requires.fact_3 c.loop-i.i (search rules)).0 }

pub mark_face-requires : goal.mark_face-requires
mark_face-requires c =
    record { fact_1 = framed-room (framed (goal.at.mark_face-requires c).At-loop-i) c.requires.fact_1; fact_2 = read-proper (framed (goal.at.mark_face-requires c).At-loop-i) c.requires.fact_2 c.requires.fact_3 (search rules) c.face_near-face.ensures }

pub loop-i-preserved : goal.loop-i-preserved
loop-i-preserved c = marking-next c.loop-i.invariant
    (read-listed (framed (goal.at.loop-i-preserved c).At-loop-i) c.requires.fact_2 c.requires.fact_3 (search rules) c.face_near-face.ensures)
    c.mark_face.ensures

pub returns : goal.returns
returns c = marking-all (search rules) c.loop-i.invariant
