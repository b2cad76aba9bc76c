-- `heapwalk::entering::enter_listed` meets its contract. The loop's invariant: the pairs with the points passed are entered, the list stays, and the quadrics
-- of the part that the next point is in are at hand. The measure is how many points are left. Assumes nothing.
use native.Mathlib.Nat.{le_refl}
use native.Mathlib.Omega.{arith}
use mathlib.Core.Path.{◌≡◌, refl, ◌∙◌}
use borrow.Author.Rules.{rules}
use Rattle.heapwalk.proofs.EnterLaws.{listed-none, turn-ready, turn-listed, turn-done}
use Rattle.heapwalk.proofs.ReadLaws.{read_next}
use Rattle.heapwalk.proofs.entering.enter_listed.Goals as goal

pub loop-i-init : goal.loop-i-init
loop-i-init c =
    (search rules, listed-none c.requires.fact_1 c.requires.fact_2, record { long = refl; read = λ other. absurd (other refl) })

pub read_ahead-requires : goal.read_ahead-requires
read_ahead-requires c =
    record { fact_1 = c.loop-i.invariant.1.entered.«open».tidy.room; fact_2 = (c.loop-i-test.true, c.requires.fact_2); fact_3 = turn-listed c.requires.fact_1 c.requires.fact_2 c.loop-i.invariant.1; fact_4 = omega (arith, c.loop-i.invariant.1.entered.«open».queue.enough.costs_long); fact_5 = c.loop-i.invariant.2 }

pub around_at-y-requires : goal.around_at-y-requires
around_at-y-requires c =
    omega (arith, c.loop-i.invariant.1.entered.«open».tidy.room.long, c.requires.fact_2, c.loop-i-test.true)

pub quadric_at-quadric-requires : goal.quadric_at-quadric-requires
quadric_at-quadric-requires c =
    omega (arith, c.read_ahead.ensures.long)

pub enter_pair-entries-requires : goal.enter_pair-entries-requires
enter_pair-entries-requires c =
    record { fact_1 = turn-ready c.requires.fact_1 c.requires.fact_2 c.loop-i.invariant.1 c.loop-i-test.true c.around_at-y.ensures; fact_2 = rw (← c.around_at-y.ensures) at (c.quadric_at-quadric.ensures ∙ c.read_ahead.ensures.read c.loop-i.i (le_refl c.loop-i.i) c.loop-i-test.true refl) }

pub overflow_step-i : goal.overflow_step-i
overflow_step-i c =
    omega (arith, c.requires.fact_2, c.requires.fact_1.«open».tidy.room.points_few, c.loop-i-test.true)

pub loop-i-preserved : goal.loop-i-preserved
loop-i-preserved c = (
  omega (arith, c.loop-i-test.true),
  turn-done c.requires.fact_1 c.requires.fact_2 c.loop-i.invariant.1 c.loop-i-test.true c.around_at-y.ensures c.enter_pair-entries.ensures,
  read_next c.requires.fact_2 (turn-listed c.requires.fact_1 c.requires.fact_2 c.loop-i.invariant.1) c.read_ahead.ensures c.enter_pair-entries.ensures,
)

pub shape_of-w : goal.shape_of-w
shape_of-w c = c.loop-i.invariant.1.entered.enqueued.but.same_length

pub shape_of-p : goal.shape_of-p
shape_of-p c = c.loop-i.invariant.1.entered.enqueued.points_but.same_length

pub shape_of-q : goal.shape_of-q
shape_of-q c = c.loop-i.invariant.1.entered.enqueued.quadrics_but.same_length

pub returns : goal.returns
returns c =
    let all : c.loop-i.i ≡ c.args.count = omega (arith, c.loop-i.invariant.0, c.loop-i-test.false) in
    rw all at c.loop-i.invariant.1
