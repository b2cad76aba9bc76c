-- `ring::around::list_marked` meets its contract. The loop's invariant: the marks of the points of the faces passed are off, and these points listed.
-- Assumes nothing.
use borrow.Author.Rules.{rules}
use Rattle.ring.proofs.FrameLaws.{framed-list, read-listed, read-proper}
use Rattle.ring.proofs.TakeLaws.{taking-none, taking-next, taking-all, ready-after}
use Rattle.ring.proofs.around.list_marked.Goals as goal

pub loop-i-init : goal.loop-i-init
loop-i-init c = taking-none

pub face_near-face-requires : goal.face_near-face-requires
face_near-face-requires c =
    record { fact_1 = (ready-after c.requires.fact_1 c.loop-i.invariant.so_far).room; fact_2 = search rules; fact_3 = (framed-list c.loop-i.invariant.so_far.frame c.requires.fact_2 c.requires.fact_3 c.loop-i.i (search rules)).0 }

pub list_face-n-requires : goal.list_face-n-requires
list_face-n-requires c =
    record { fact_1 = ready-after c.requires.fact_1 c.loop-i.invariant.so_far; fact_2 = read-proper c.loop-i.invariant.so_far.frame c.requires.fact_2 c.requires.fact_3 (search rules) c.face_near-face.ensures }

pub loop-i-preserved : goal.loop-i-preserved
loop-i-preserved c = taking-next c.loop-i.invariant
    (read-listed c.loop-i.invariant.so_far.frame c.requires.fact_2 c.requires.fact_3 (search rules) c.face_near-face.ensures)
    c.list_face-n.ensures

pub returns : goal.returns
returns c = taking-all (search rules) c.loop-i.invariant
