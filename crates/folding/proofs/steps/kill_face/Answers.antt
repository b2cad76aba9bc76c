-- `folding::steps::kill_face` meets its contract: what the test says of the face decides which of the two cases of `killed` it is.
-- Assumes nothing.
use mathlib.Core.Path.{◌≡◌, sym, ap, ◌∙◌}
use mathlib.Core.Bool.{true, false}
use Rattle.walk.specs.Faces.{holds, face_at}
use Rattle.folding.specs.Clauses.Steps.{killed}
use Rattle.folding.proofs.steps.kill_face.Goals as goal

pub returns-then-held-clause-killed : goal.returns-then-held-clause-killed
unfolding killed
returns-then-held-clause-killed c =
    let held : holds c.args.x (face_at c.args.w.now c.args.k) ≡ true =
    sym (ap (holds c.args.x) c.face_in.ensures) ∙ sym c.holds-held.ensures ∙ c.if-held.true in
    c.set_live.ensures ∙ rw held

pub returns-else-held-clause-killed : goal.returns-else-held-clause-killed
unfolding killed
returns-else-held-clause-killed c =
    let held : holds c.args.x (face_at c.args.w.now c.args.k) ≡ false =
    sym (ap (holds c.args.x) c.face_in.ensures) ∙ sym c.holds-held.ensures ∙ c.if-held.false in
    rw held
