-- `replies::write_thinned` meets its contract: the library's call leaves the outcome, and its mesh is replied with. Assumes nothing.
use mathlib.Core.Path.{◌≡◌}
use borrow.Author.Rules.{rules}
use Rattle.units.specs.Units.{unit_number}
use Rattle.meaning.specs.Call.{lent, input_of}
use Rattle.meaning.specs.Outcome.{outcome}
use Rattle.replies.specs.Replies.{head_options, call_of}
use Rattle.replies.proofs.OutcomeLaws.{counted}
use Rattle.replies.proofs.ReplyLaws.{same-call, shown, outcome-replied}
use Rattle.replies.proofs.write_thinned.Goals as goal
use Rattle.replies.proofs.write_thinned.Goals.{After-thin-answer}

-- the library is handed that input
same : (c : After-thin-answer) → input_of c.args.points.now c.args.faces.now c.args.margin.now (head_options c.args.head) ((lent c.zeros-out_points.result c.zeros-out_faces.result c.zeros-work_u32.result c.zeros-work_f32.result c.zeros-work_f64.result)) ≡ (call_of c.args.head c.args.points.now c.args.faces.now c.args.margin.now)
same c =
    same-call c.args.head c.args.points.now c.args.faces.now c.args.margin.now ((lent c.zeros-out_points.result c.zeros-out_faces.result c.zeros-work_u32.result c.zeros-work_f32.result c.zeros-work_f64.result))
    c.zeros-out_points.ensures c.zeros-out_faces.ensures c.zeros-work_u32.ensures c.zeros-work_f32.ensures c.zeros-work_f64.ensures

-- with the unit's number
named : (c : After-thin-answer) → c.from.result ≡ unit_number c.args.head.unit
named c = c.from.ensures

pub write_answer-requires : goal.write_answer-requires
write_answer-requires c =
    let left = rw (named (goal.at.write_answer-requires c).After-thin-answer, same (goal.at.write_answer-requires c).After-thin-answer) at c.thin-answer.ensures.thinned.answered in record { fact_1 = c.requires; fact_2 = shown ((outcome ((call_of c.args.head c.args.points.now c.args.faces.now c.args.margin.now)))) (counted ((call_of c.args.head c.args.points.now c.args.faces.now c.args.margin.now))) _ _ left.answered left.points_written left.faces_written (search rules) (search rules) }

pub returns : goal.returns
returns c =
    let left = rw (named (goal.at.returns c).After-thin-answer, same (goal.at.returns c).After-thin-answer) at c.thin-answer.ensures.thinned.answered in
    outcome-replied ((outcome ((call_of c.args.head c.args.points.now c.args.faces.now c.args.margin.now)))) (counted ((call_of c.args.head c.args.points.now c.args.faces.now c.args.margin.now))) _ _ left.answered left.points_written left.faces_written c.args.wanted c.args.head.unit
    c.write_answer.ensures
