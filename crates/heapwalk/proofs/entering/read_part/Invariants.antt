-- `heapwalk::entering::read_part` meets its contract. The loop's invariant: those before j are read. Assumes nothing.
use Prim.Native.Nat.{◌-◌, ◌≤◌}
use Rattle.heapwalk.specs.Clauses.Reading.{PartRead}
use Rattle.heapwalk.proofs.entering.read_part.Given as goal

abbrev pub invariant-loop-j : goal.invariant-loop-j
invariant-loop-j l = (l.j ≤ l.some) × PartRead l.extent.v l.extent.f l.w l.q l.from l.j l.initial.near l.near

abbrev pub decreases-loop-j : goal.decreases-loop-j
decreases-loop-j l = l.some - l.j
