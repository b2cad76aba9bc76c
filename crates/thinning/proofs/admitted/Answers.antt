-- `thinning::admitted` meets its contract: the walk is handed a mesh that the checks have admitted, and what the two stages leave is the outcome of the input.
-- Assumes nothing.
use Rattle.meaning.specs.Call.{lent, input_of}
use Rattle.checks.specs.Facts.{Admissible}
use Rattle.checks.proofs.VerdictLaws as verdicts
use Rattle.thinning.proofs.SizeLaws.{ready}
use Rattle.thinning.proofs.AdmittedLaws.{same-walk, finish-asked, thinned-by}
use Rattle.thinning.proofs.admitted.Goals as goal
use Rattle.thinning.proofs.admitted.Goals.{Start}

-- what the checks have shown of it
fine : (c : Start) → Admissible ((input_of c.args.points.now c.args.faces.now c.args.margin.now c.args.options ((lent c.args.out_points.now c.args.out_faces.now c.args.w.now c.args.p.now c.args.q.now))))
fine c = verdicts.admitted ((input_of c.args.points.now c.args.faces.now c.args.margin.now c.args.options ((lent c.args.out_points.now c.args.out_faces.now c.args.w.now c.args.p.now c.args.q.now)))) c.requires

pub walked-came-requires : goal.walked-came-requires
walked-came-requires c =
    record { fact_1 = ready c.args.points.now c.args.faces.now c.args.margin.now c.args.options ((lent c.args.out_points.now c.args.out_faces.now c.args.w.now c.args.p.now c.args.q.now)) (fine (goal.at.walked-came-requires c).Start); fact_2 = (fine (goal.at.walked-came-requires c).Start).sized.unit_known }

pub finished-requires : goal.finished-requires
finished-requires c =
    let sized = (fine (goal.at.finished-requires c).Start).sized in
    finish-asked ((input_of c.args.points.now c.args.faces.now c.args.margin.now c.args.options ((lent c.args.out_points.now c.args.out_faces.now c.args.w.now c.args.p.now c.args.q.now)))) (same-walk c.args.points.now c.args.faces.now c.args.margin.now c.args.options ((lent c.args.out_points.now c.args.out_faces.now c.args.w.now c.args.p.now c.args.q.now)) c.walked-came.ensures) sized.room_points sized.room_faces
    (ready c.args.points.now c.args.faces.now c.args.margin.now c.args.options ((lent c.args.out_points.now c.args.out_faces.now c.args.w.now c.args.p.now c.args.q.now)) (fine (goal.at.finished-requires c).Start)).working

pub returns : goal.returns
returns c =
    thinned-by ((input_of c.args.points.now c.args.faces.now c.args.margin.now c.args.options ((lent c.args.out_points.now c.args.out_faces.now c.args.w.now c.args.p.now c.args.q.now)))) (same-walk c.args.points.now c.args.faces.now c.args.margin.now c.args.options ((lent c.args.out_points.now c.args.out_faces.now c.args.w.now c.args.p.now c.args.q.now)) c.walked-came.ensures) c.finished.ensures c.requires
