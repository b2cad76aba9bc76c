-- `queue::order::rise` meets its contract. The loop's invariant: the entries are in another order, and make a heap but that the one of the hole may
-- come before the one over it. The measure is the hole. Assumes nothing.
use Prim.Native.Nat.{◌+◌}
use Rattle.memory.specs.Entries.{entry_in}
use Rattle.queue.specs.Clauses.Order.{filled, ranks}
use Rattle.queue.proofs.HeapLaws.{Rising}
use Rattle.queue.proofs.HoleLaws.{Moving}
use Rattle.queue.proofs.order.rise.Given as goal

abbrev pub invariant-loop-hole : goal.invariant-loop-hole
invariant-loop-hole l =
    Moving l.extent.v l.extent.f (l.n + 1) l.initial.w l.initial.p l.initial.q l.n l.entry l.w l.p l.q l.hole × Rising (ranks (filled (entry_in l.extent.v l.extent.f l.w l.p l.q) l.hole l.entry)) (l.n + 1) l.hole

abbrev pub decreases-loop-hole : goal.decreases-loop-hole
decreases-loop-hole l = l.hole
