-- The name is text.
use Rattle.std.proofs.Common.{arith}
use Rattle.std.specs.Prelude.{IsUtf8}
use Rattle.thin.specs.Clauses.{name_beside}
use Rattle.thin.proofs.TextLaws.{text_beside, text_stored, is_ok}
use Rattle.thin.proofs.files.make_beside.Goals as goal

pub unwrap-path-requires : goal.unwrap-path-requires
unwrap-path-requires g c =
    let is_name : IsUtf8 c.as_bytes.result.now = rw c.as_bytes.ensures.value c.utf8.name in
    let is_text =
    text_stored {run = name_beside c.as_bytes.result.now c.loop-k.k} c.name_beside-length.ensures (omega (arith, c.requires)) (text_beside c.as_bytes.result.now c.loop-k.k is_name (omega arith)) in
    is_ok c.from_utf8.result _ _ c.from_utf8.ensures.cases (λ e told. told.0 is_text)
