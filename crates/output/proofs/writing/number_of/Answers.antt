-- `output::writing::number_of` meets its contract: a mark is there just where the point has been met, and a new point has room.
-- Assumes nothing.
use Prim.Native.Nat.{◌+◌, ◌*◌, ◌<◌}
use native.Mathlib.Omega.{arith}
use lib.ListN.{length}
use Rattle.output.proofs.NumberingLaws.{numbered-old, numbered-new, room-known}
use Rattle.output.proofs.writing.number_of.Goals as goal
use Rattle.output.proofs.writing.number_of.Goals.{Else-kept-ne0}

-- where there is no mark there is room
room : (c : Else-kept-ne0) →
    (c.args.met < c.args.extent.v)
    × (3 * c.args.met + 2 < length c.args.out_points.now)
room c =
    room-known c.args.x c.requires.fact_2 c.mark_at-kept.result c.mark_at-kept.ensures
    c.if-kept-ne0.false c.requires.fact_4

pub returns-then-kept-ne0 : goal.returns-then-kept-ne0
returns-then-kept-ne0 c = numbered-old c.args.x c.requires.fact_2 c.mark_at-kept.result c.mark_at-kept.ensures c.if-kept-ne0.true

pub put_point-requires : goal.put_point-requires
put_point-requires c = record { fact_1 = omega (arith, room (goal.at.put_point-requires c).Else-kept-ne0); fact_2 = (room (goal.at.put_point-requires c).Else-kept-ne0).1 }

pub overflow_add-met : goal.overflow_add-met
overflow_add-met c = omega (arith, room (goal.at.overflow_add-met c).Else-kept-ne0)

pub overflow_cast-met : goal.overflow_cast-met
overflow_cast-met c = omega (arith, room (goal.at.overflow_cast-met c).Else-kept-ne0)

pub overflow_cast-result : goal.overflow_cast-result
overflow_cast-result c = omega (arith, room (goal.at.overflow_cast-result c).Else-kept-ne0)

pub overflow_add-result : goal.overflow_add-result
overflow_add-result c = omega (arith, room (goal.at.overflow_add-result c).Else-kept-ne0)

pub returns : goal.returns
returns c =
    numbered-new c.args.x c.requires.fact_2 c.mark_at-kept.result c.mark_at-kept.ensures
    c.if-kept-ne0.false (omega (arith, c.requires.fact_1.long)) c.set_mark.ensures c.put_point.ensures
