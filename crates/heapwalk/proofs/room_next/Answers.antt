-- `heapwalk::room_next` meets its contract: each arm is one of its definition. Assumes nothing.
use mathlib.Core.Path.{refl}
use Rattle.heapwalk.proofs.room_next.Goals as goal

pub returns-then-thin : goal.returns-then-thin
returns-then-thin c = rw c.if-thin.true refl

pub returns : goal.returns
returns c = rw c.if-thin.false c.saturating_sub.ensures
