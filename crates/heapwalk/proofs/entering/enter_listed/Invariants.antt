-- `heapwalk::entering::enter_listed` meets its contract. The loop's invariant: the pairs with the points passed are entered, the list stays, and the quadrics
-- of the part that the next point is in are at hand. The measure is how many points are left. Assumes nothing.
use Prim.Native.Nat.{◌-◌, ◌≤◌}
use Rattle.memory.specs.Memory.{around_in}
use Rattle.heapwalk.specs.Clauses.Listing.{pairs_with, EnteredBeside}
use Rattle.heapwalk.specs.Clauses.Reading.{ReadBefore}
use Rattle.heapwalk.proofs.entering.enter_listed.Given as goal

abbrev pub invariant-loop-i : goal.invariant-loop-i
invariant-loop-i l =
    (l.i ≤ l.count)
    × EnteredBeside l.extent.v l.extent.f l.initial.w l.initial.p l.initial.q l.n l.bounds.limit l.bounds.size (pairs_with l.extent.v l.extent.f l.initial.w l.initial.p l.initial.q l.bounds.limit l.bounds.size l.x (around_in l.extent.v l.extent.f l.initial.w l.i)) l.w l.p l.q l.entries
    × ReadBefore l.extent.v l.extent.f l.w l.q l.count l.i l.near

abbrev pub decreases-loop-i : goal.decreases-loop-i
decreases-loop-i l = l.count - l.i
