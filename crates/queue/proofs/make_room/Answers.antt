-- `queue::make_room` meets its contract: a full queue has old entries. Assumes nothing.
use native.Mathlib.Omega.{arith}
use Rattle.queue.proofs.ThrowLaws.{thrown-room, room-already}
use Rattle.queue.proofs.make_room.Goals as goal

pub returns-then-n-extent : goal.returns-then-n-extent
returns-then-n-extent c =
    thrown-room c.throw_out.ensures c.requires.fact_2 c.requires.fact_3

pub returns : goal.returns
returns c =
    room-already c.requires.fact_1 (omega (arith, c.requires.fact_1.few, c.if-n-extent.false))
