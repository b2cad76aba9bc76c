-- The loop invariant of `orders::refused`: none of the orders before the one at hand is bad.
use Rattle.std.proofs.Common.{◌≡◌, false}
use Rattle.lists.specs.Lists.{some, below}
use Rattle.orders.specs.Refused.{bad_order}
use Rattle.orders.proofs.refused.Given as goal

abbrev pub invariant-loop-place : goal.invariant-loop-place
invariant-loop-place l = some (bad_order l.orders l.cells) (below l.place) ≡ false
