-- `output::writing::write_face` meets its contract: each of the three points is below `v`, and is noted after the one before.
-- Assumes nothing.
use native.Mathlib.Omega.{arith}
use mathlib.Core.Path.{◌∙◌}
use Rattle.output.proofs.NumberingLaws.{known-then, room-then}
use Rattle.output.proofs.WritingLaws.{corners-low, face-written}
use Rattle.output.proofs.writing.write_face.Goals as goal

pub number_of-a-requires : goal.number_of-a-requires
number_of-a-requires c =
    record { fact_1 = c.requires.fact_1; fact_2 = (corners-low c.args.extent.v c.args.face c.requires.fact_2).0; fact_3 = c.requires.fact_3; fact_4 = c.requires.fact_5 }

pub number_of-b-requires : goal.number_of-b-requires
number_of-b-requires c =
    record { fact_1 = room-then c.requires.fact_1 c.number_of-a.ensures; fact_2 = (corners-low c.args.extent.v c.args.face c.requires.fact_2).1; fact_3 = c.requires.fact_3; fact_4 = known-then c.requires.fact_5 c.number_of-a.ensures }

pub number_of-c-requires : goal.number_of-c-requires
number_of-c-requires c =
    record { fact_1 = room-then (room-then c.requires.fact_1 c.number_of-a.ensures) c.number_of-b.ensures; fact_2 = (corners-low c.args.extent.v c.args.face c.requires.fact_2).2; fact_3 = c.requires.fact_3; fact_4 = known-then (known-then c.requires.fact_5 c.number_of-a.ensures) c.number_of-b.ensures }

pub put_face-requires : goal.put_face-requires
put_face-requires c =
    omega (arith, c.requires.fact_4)

pub overflow_add-result : goal.overflow_add-result
overflow_add-result c =
    omega (arith, c.requires.fact_4)

pub shape_of-w : goal.shape_of-w
shape_of-w c =
    c.number_of-c.ensures.but.same_length
    ∙ c.number_of-b.ensures.but.same_length
    ∙ c.number_of-a.ensures.but.same_length

pub returns : goal.returns
returns c =
    face-written c.number_of-a.ensures c.number_of-b.ensures c.number_of-c.ensures c.put_face.ensures
