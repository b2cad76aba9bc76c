-- `queue::order::settle` meets its contract. The loop's invariant: the entries are in another order, and they make a heap from place lo on.
-- The measure is lo. Assumes nothing.
use native.Mathlib.Omega.{arith}
use Rattle.memory.specs.Entries.{entry_in}
use Rattle.queue.specs.Clauses.Order.{ranks}
use Rattle.queue.proofs.HeapLaws.{heap-higher}
use Rattle.queue.proofs.SettleLaws.{settling-start, settling-turn, settling-end}
use Rattle.queue.proofs.order.settle.Goals as goal

pub loop-lo-init : goal.loop-lo-init
loop-lo-init c = (omega arith, settling-start c.requires.fact_1 c.requires.fact_2 (omega arith))

pub entry_at-entry-requires : goal.entry_at-entry-requires
entry_at-entry-requires c =
    record { fact_1 = omega (arith, c.loop-lo.invariant.1.few, c.loop-lo.invariant.0); fact_2 = c.loop-lo.invariant.1.enough }

pub sift_down-requires : goal.sift_down-requires
sift_down-requires c =
    record { fact_1 = record { enough = c.loop-lo.invariant.1.enough; few = c.loop-lo.invariant.1.few; inside = omega (arith, c.loop-lo.invariant.1.few, c.loop-lo.invariant.0) }; fact_2 = heap-higher (ranks (entry_in c.args.extent.v c.args.extent.f c.loop-lo.w c.loop-lo.p c.loop-lo.q)) (omega arith) c.loop-lo.invariant.1.ordered }

pub loop-lo-preserved : goal.loop-lo-preserved
loop-lo-preserved c =
    (omega (arith, c.loop-lo.invariant.0), settling-turn c.loop-lo.invariant.1 c.entry_at-entry.ensures c.sift_down.ensures)

pub shape_of-w : goal.shape_of-w
shape_of-w c = c.loop-lo.invariant.1.only.but.same_length

pub shape_of-p : goal.shape_of-p
shape_of-p c = c.loop-lo.invariant.1.only.points_but.same_length

pub shape_of-q : goal.shape_of-q
shape_of-q c = c.loop-lo.invariant.1.only.quadrics_but.same_length

pub returns : goal.returns
returns c = settling-end (omega (arith, c.loop-lo-test.false)) c.loop-lo.invariant.1
