-- `heapwalk::entering::read_ahead` meets its contract: where a part begins it is read, and else it is at hand. Assumes nothing.
use native.Mathlib.Omega.{arith}
use Prim.Native.Nat.{◌-◌}
use Rattle.heapwalk.specs.Clauses.Reading.{part_of, PartRead}
use Rattle.heapwalk.proofs.ReadLaws.{part-begins, part-goes-on, part_room, part-inside}
use Rattle.heapwalk.proofs.entering.read_ahead.Goals as goal
use Rattle.heapwalk.proofs.entering.read_ahead.Goals.{After-read_part}

-- the part that was read
part : (c : After-read_part) →
    PartRead c.args.extent.v c.args.extent.f c.args.w.now c.args.q.now c.args.i (part_of (c.args.count - c.args.i)) c.args.near.now c.read_part.new.near
part c = rw c.min-some.ensures at c.read_part.ensures

pub read_part-requires : goal.read_part-requires
read_part-requires c =
    let upto = part-inside c.requires.fact_2.0 in record { fact_1 = c.requires.fact_1; fact_2 = omega (arith, c.min-some.ensures, upto, c.requires.fact_2.1); fact_3 = (λ j l. c.requires.fact_3 j (omega (arith, c.min-some.ensures, upto))); fact_4 = c.requires.fact_4; fact_5 = omega (arith, c.min-some.ensures, part_room c.requires.fact_5) }

pub shape_of-near : goal.shape_of-near
shape_of-near c = (part (goal.at.shape_of-near c).After-read_part).same_length

pub returns-then-i-eq0 : goal.returns-then-i-eq0
returns-then-i-eq0 c =
    part-begins c.requires.fact_5 c.if-i-eq0.true c.requires.fact_2.0 (part (goal.at.returns-then-i-eq0 c).After-read_part)

pub returns-else-i-eq0 : goal.returns-else-i-eq0
returns-else-i-eq0 c = part-goes-on c.requires.fact_5 c.if-i-eq0.false
