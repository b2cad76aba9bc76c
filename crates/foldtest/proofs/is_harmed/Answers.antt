-- `foldtest::is_harmed` meets its contract: a face that holds the other point is not harmed, and any other is if the test doesn't allow it.
-- Assumes nothing.
use Rattle.foldtest.proofs.HarmLaws.{is-harmed}
use Rattle.foldtest.proofs.is_harmed.Goals as goal

pub returns-then-not-holds : goal.returns-then-not-holds
returns-then-not-holds c =
    is-harmed c.args.p.now c.args.fold.keep c.args.fold.remove c.args.fold.place c.args.other c.face_in-face.ensures c.holds.ensures c.if-not-holds.true c.args.k
    c.tested_face.ensures c.is_err.ensures.value
