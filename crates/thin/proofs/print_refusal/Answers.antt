-- A refusal in plain words is text.
use Rattle.std.proofs.Common.{arith}
use Rattle.replies.specs.Replies.{complaint}
use Rattle.thin.proofs.TextLaws.{complaint_text, text_stored, is_ok}
use Rattle.thin.proofs.print_refusal.Goals as goal

pub unwrap-requires : goal.unwrap-requires
unwrap-requires g c =
    let is_text = text_stored {run = complaint c.args.number c.args.place} c.write_complaint-size.ensures (omega arith) (complaint_text c.args.number c.args.place) in
    is_ok c.from_utf8.result _ _ c.from_utf8.ensures.cases (λ e told. told.0 is_text)
