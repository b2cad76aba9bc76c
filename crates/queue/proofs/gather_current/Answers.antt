-- `queue::gather_current` meets its contract. The loop's invariant is `Gathering`; each arm of the test is one law of it.
-- The measure is how many entries are left to look at. Assumes nothing.
use native.Mathlib.Omega.{arith}
use borrow.Author.Rules.{rules}
use Rattle.memory.proofs.EntryLaws.{room-only}
use Rattle.queue.proofs.ThrowLaws.{gathering-none, gathering-kept, gathering-old, gathering-all, looked-named}
use Rattle.queue.proofs.gather_current.Goals as goal
use Rattle.queue.proofs.gather_current.Goals.{then-stays, else-stays}

pub loop-i-init : goal.loop-i-init
loop-i-init c = (search rules, gathering-none _ _ _ _ _ _)

pub entry_at-entry-requires : goal.entry_at-entry-requires
entry_at-entry-requires c =
    record { fact_1 = omega (arith, c.requires.fact_1, c.loop-i-test.true); fact_2 = room-only c.loop-i.invariant.1.only c.requires.fact_2 }

pub is_current-stays-requires : goal.is_current-stays-requires
is_current-stays-requires c =
    record { fact_1 = (room-only c.loop-i.invariant.1.only c.requires.fact_2).room; fact_2 = looked-named c.requires.fact_3 c.loop-i-test.true c.loop-i.invariant.1 c.entry_at-entry.ensures }

pub set_entry-requires : goal.set_entry-requires
set_entry-requires c =
    record { fact_1 = omega (arith, c.requires.fact_1, c.loop-i-test.true, c.loop-i.invariant.1.few); fact_2 = room-only c.loop-i.invariant.1.only c.requires.fact_2 }

pub overflow_add-kept : goal.overflow_add-kept
overflow_add-kept c =
    omega (arith, c.requires.fact_1, c.requires.fact_2.room.faces_few, c.loop-i-test.true, c.loop-i.invariant.1.few)

pub overflow_step-i : goal.overflow_step-i
overflow_step-i c =
    omega (arith, c.requires.fact_1, c.requires.fact_2.room.faces_few, c.loop-i-test.true)

pub loop-i-preserved : goal.loop-i-preserved
loop-i-preserved c = (
  search rules,
  elim c.if-stays.branch [
    | then-stays w ↦ rw w.kept-is (gathering-kept c.requires.fact_3 c.loop-i-test.true c.loop-i.invariant.1 c.entry_at-entry.ensures w.if-stays.true c.is_current-stays.ensures c.set_entry.ensures)
    | else-stays w ↦ rw w.kept-is (gathering-old c.requires.fact_3 c.loop-i-test.true c.loop-i.invariant.1 c.entry_at-entry.ensures w.if-stays.false c.is_current-stays.ensures c.set_entry.ensures)
  ],
)

pub shape_of-w : goal.shape_of-w
shape_of-w c = c.loop-i.invariant.1.only.but.same_length

pub shape_of-p : goal.shape_of-p
shape_of-p c = c.loop-i.invariant.1.only.points_but.same_length

pub shape_of-q : goal.shape_of-q
shape_of-q c = c.loop-i.invariant.1.only.quadrics_but.same_length

pub returns : goal.returns
returns c = gathering-all (search rules) c.loop-i.invariant.1
