-- `queue::take_current` meets its contract. The loop's invariant is `Taking`; each arm of the test is one law of it.
-- The measure is how many entries are left. Assumes nothing.
use Prim.Native.Nat.{◌+◌, ◌-◌}
use native.Mathlib.Omega.{arith}
use mathlib.Core.Path.{◌≡◌}
use borrow.Author.Rules.{rules}
use Rattle.queue.specs.Clauses.Changes.{Popped}
use Rattle.queue.proofs.TakeLaws.{taking-start, taking-none, taking-old, taking-found, popped-named}
use Rattle.queue.proofs.take_current.Goals as goal
use Rattle.queue.proofs.take_current.Goals.{After-pop-top}

-- the one on top was taken off them
popped : (c : After-pop-top) →
    Popped c.args.extent.v c.args.extent.f c.loop-left.w c.loop-left.p c.loop-left.q c.loop-left.left c.pop-top.new.w c.pop-top.new.p c.pop-top.new.q c.pop-top.result
popped c = let same : c.loop-left.left - 1 + 1 ≡ c.loop-left.left = omega (arith, c.loop-left-test.true) in rw same at c.pop-top.ensures

pub loop-left-init : goal.loop-left-init
loop-left-init c = taking-start c.requires.fact_1

pub pop-top-requires : goal.pop-top-requires
pop-top-requires c =
    let same : c.loop-left.left - 1 + 1 ≡ c.loop-left.left = omega (arith, c.loop-left-test.true) in
    record { fact_1 = search rules; fact_2 = rw same c.loop-left.invariant.fewer.queue }

pub is_current-requires : goal.is_current-requires
is_current-requires c =
    record { fact_1 = (popped (goal.at.is_current-requires c).After-pop-top).fewer.queue.enough.room; fact_2 = popped-named c.requires.fact_2 c.loop-left.invariant (popped (goal.at.is_current-requires c).After-pop-top) }

pub shape_of-w-then-is_current : goal.shape_of-w-then-is_current
shape_of-w-then-is_current c = (taking-found c.requires.fact_2 c.loop-left.invariant (popped (goal.at.shape_of-w-then-is_current c).After-pop-top)
    c.is_current.ensures c.if-is_current.true).fewer.only.but.same_length

pub shape_of-p-then-is_current : goal.shape_of-p-then-is_current
shape_of-p-then-is_current c = (taking-found c.requires.fact_2 c.loop-left.invariant (popped (goal.at.shape_of-p-then-is_current c).After-pop-top)
    c.is_current.ensures c.if-is_current.true).fewer.only.points_but.same_length

pub shape_of-q-then-is_current : goal.shape_of-q-then-is_current
shape_of-q-then-is_current c = (taking-found c.requires.fact_2 c.loop-left.invariant (popped (goal.at.shape_of-q-then-is_current c).After-pop-top)
    c.is_current.ensures c.if-is_current.true).fewer.only.quadrics_but.same_length

pub returns-then-is_current : goal.returns-then-is_current
returns-then-is_current c =
    taking-found c.requires.fact_2 c.loop-left.invariant (popped (goal.at.returns-then-is_current c).After-pop-top) c.is_current.ensures c.if-is_current.true

pub loop-left-preserved : goal.loop-left-preserved
loop-left-preserved c =
    taking-old c.requires.fact_2 c.loop-left.invariant (popped (goal.at.loop-left-preserved c).After-pop-top) c.is_current.ensures c.if-is_current.false

pub shape_of-w : goal.shape_of-w
shape_of-w c = c.loop-left.invariant.fewer.only.but.same_length

pub shape_of-p : goal.shape_of-p
shape_of-p c = c.loop-left.invariant.fewer.only.points_but.same_length

pub shape_of-q : goal.shape_of-q
shape_of-q c = c.loop-left.invariant.fewer.only.quadrics_but.same_length

pub returns : goal.returns
returns c = taking-none (search rules) c.loop-left.invariant
