-- `ring::around::face_near` meets its contract: the face is the one in the slot that was read.
-- Assumes nothing.
use Rattle.ring.proofs.around.face_near.Goals as goal

pub returns : goal.returns
returns c = rw c.near_at-k.ensures at c.face_in.ensures
