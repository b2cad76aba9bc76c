-- `replies::write_answer` meets its contract: each return is the reply by its number. Assumes nothing.
use mathlib.Core.Path.{sym}
use borrow.Author.Rules.{rules}
use lib.Seq.{length-take-le}
use Rattle.replies.proofs.ReplyLaws.{refused-told, mesh-told, parts-small}
use Rattle.replies.proofs.write_answer.Goals as goal

pub returns-then-answer-ne0 : goal.returns-then-answer-ne0
returns-then-answer-ne0 c = rw (refused-told _ _ _ _ c.if-answer-ne0.true) c.write_refusal.ensures

pub slice_bounds-write_mesh-end : goal.slice_bounds-write_mesh-end
slice_bounds-write_mesh-end c = sym (length-take-le _ _ c.requires.fact_2.points_there)

pub slice_bounds-write_mesh-end-2 : goal.slice_bounds-write_mesh-end-2
slice_bounds-write_mesh-end-2 c = sym (length-take-le _ _ c.requires.fact_2.faces_there)

pub write_mesh-requires : goal.write_mesh-requires
write_mesh-requires c = record { fact_1 = search rules; fact_2 = parts-small c.requires.fact_2 }

pub returns : goal.returns
returns c = rw (mesh-told _ _ _ _ c.if-answer-ne0.false) c.write_mesh.ensures
