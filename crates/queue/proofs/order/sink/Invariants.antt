-- `queue::order::sink` meets its contract. The loop's invariant: the entries are in another order, and make a heap but that the one of the hole may
-- come after those under it. The measure is how many places are under it. Assumes nothing.
use Prim.Native.Nat.{◌-◌}
use Rattle.memory.specs.Entries.{entry_in}
use Rattle.queue.specs.Clauses.Order.{filled, ranks}
use Rattle.queue.proofs.HeapLaws.{Sinking}
use Rattle.queue.proofs.HoleLaws.{Moving}
use Rattle.queue.proofs.order.sink.Given as goal

abbrev pub invariant-loop-hole : goal.invariant-loop-hole
invariant-loop-hole l =
    Moving l.extent.v l.extent.f l.n l.initial.w l.initial.p l.initial.q l.lo l.entry l.w l.p l.q l.hole × Sinking l.lo (ranks (filled (entry_in l.extent.v l.extent.f l.w l.p l.q) l.hole l.entry)) l.n l.hole

abbrev pub decreases-loop-hole : goal.decreases-loop-hole
decreases-loop-hole l = l.n - l.hole
