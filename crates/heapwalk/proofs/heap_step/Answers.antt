-- `heapwalk::heap_step` meets its contract: at the end nothing is done, and else the answer is that of the first current entry.
-- Assumes nothing.
use native.Mathlib.Omega.{arith}
use Rattle.queue.specs.Clauses.Changes.{TakenOff}
use Rattle.heapwalk.proofs.AnswerLaws.{at_target, none_left}
use Rattle.heapwalk.proofs.TakenLaws.{took-entry, took-none, top-holds, taken_step}
use Rattle.heapwalk.proofs.heap_step.Goals as goal
use Rattle.heapwalk.proofs.heap_step.Goals.{In-Some}

-- the first current entry was taken off
taken : (c : In-Some) → TakenOff c.args.extent.v c.args.extent.f c.args.w.now c.args.p.now c.args.q.now c.args.entries c.take_first.new.w c.take_first.new.p c.take_first.new.q c.in-Some.top c.in-Some.left
taken c =
    took-entry c.take_first.new.w c.take_first.new.p c.take_first.new.q c.in-Some.is c.take_first.ensures

pub returns-then-live-target : goal.returns-then-live-target
returns-then-live-target c =
    rw c.ended.ensures (at_target c.requires c.args.target c.args.bounds.limit (omega (arith, c.if-live-target.true)))

pub take_first-requires : goal.take_first-requires
take_first-requires c =
    record { fact_1 = c.requires.«open».queue; fact_2 = λ i l. (c.requires.«open».kept i l).named }

pub try_pair-requires : goal.try_pair-requires
try_pair-requires c =
    top-holds c.requires c.args.target c.args.bounds.limit (taken (goal.at.try_pair-requires c).In-Some)

pub returns : goal.returns
returns c =
    taken_step c.requires c.args.target c.args.bounds.limit (taken (goal.at.returns c).In-Some) (omega (arith, c.if-live-target.false)) c.try_pair.ensures

pub returns-in_default : goal.returns-in_default
returns-in_default c =
    rw c.ended-in_default.ensures
    (none_left c.requires c.args.target c.args.bounds.limit
    (took-none c.take_first.new.w c.take_first.new.p c.take_first.new.q c.in_default.is c.take_first.ensures)
    (omega (arith, c.if-live-target.false)))
