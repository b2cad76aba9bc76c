-- `records::float_at` meets its contract. Assumes nothing.
use mathlib.Core.Path.{ap, ◌∙◌}
use lib.Ieee.{binary32, of_bits}
use Rattle.records.proofs.float_at.Goals as goal

pub returns : goal.returns
returns c = c.f32_of.ensures ∙ ap (of_bits binary32) c.four_bytes.ensures
