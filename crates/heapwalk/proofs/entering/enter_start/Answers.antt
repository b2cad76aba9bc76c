-- `heapwalk::entering::enter_start` meets its contract. The loop's invariant: the pairs of the points passed are entered.
-- The measure is how many points are left. Assumes nothing.
use native.Mathlib.Omega.{arith}
use borrow.Author.Rules.{rules}
use Rattle.heapwalk.proofs.StartLaws.{starting-none, starting-room, starting-next, starting-all}
use Rattle.heapwalk.proofs.entering.enter_start.Goals as goal

pub empty-requires : goal.empty-requires
empty-requires c =
    record { room = c.requires.fact_1.room; places_long = c.requires.fact_2; costs_long = c.requires.fact_3 }

pub loop-x-init : goal.loop-x-init
loop-x-init c =
    (search rules, starting-none c.requires.fact_1 c.empty.ensures c.args.bounds.limit c.args.bounds.size)

pub overflow_cast-x : goal.overflow_cast-x
overflow_cast-x c = omega (arith, c.requires.fact_1.room.points_few)

pub enter_around-n-requires : goal.enter_around-n-requires
enter_around-n-requires c =
    record {
      fact_1 = c.loop-x.invariant.1.«open»;
      fact_2 = search rules;
      room = starting-room c.requires.fact_1 c.empty.ensures c.args.bounds.limit c.args.bounds.size
          c.loop-x.x c.loop-x.invariant.1 (search rules);
    }

pub loop-x-preserved : goal.loop-x-preserved
loop-x-preserved c = (
  omega (arith, c.loop-x-test.true),
  starting-next c.requires.fact_1 c.empty.ensures c.args.bounds.limit c.args.bounds.size
      c.loop-x.x c.loop-x.invariant.1 c.enter_around-n.ensures,
)

pub returns : goal.returns
returns c =
    starting-all c.requires.fact_1 c.empty.ensures c.args.bounds.limit c.args.bounds.size
    c.loop-x.x c.loop-x.invariant.1 (search rules)
