-- `queue::order::least_under` meets its contract: three comparisons find the lowest of four.
-- Assumes nothing.
use Prim.Native.Nat.{◌+◌, ◌*◌}
use Rattle.queue.specs.Clauses.Ranks.{rank_in}
use Rattle.queue.proofs.HeapLaws.{Lower, first-lower, lowest-found}
use Rattle.queue.proofs.order.least_under.Goals as goal
use Rattle.queue.proofs.order.least_under.Goals.{After-lesser_of-second, After-lesser_of-third}

one : (c : After-lesser_of-second) → Lower ((rank_in c.args.extent.v c.args.extent.f c.args.w.now c.args.q.now)) c.args.n (4 * c.args.at + 1) (4 * c.args.at + 1 + 1) c.lesser_of-second.result
one c = first-lower c.requires.fact_4 c.lesser_of-second.ensures

two : (c : After-lesser_of-third) → Lower ((rank_in c.args.extent.v c.args.extent.f c.args.w.now c.args.q.now)) c.args.n c.lesser_of-second.result (4 * c.args.at + 1 + 2) c.lesser_of-third.result
two c = first-lower {r = (rank_in c.args.extent.v c.args.extent.f c.args.w.now c.args.q.now)} (first-lower c.requires.fact_4 c.lesser_of-second.ensures).within c.lesser_of-third.ensures

pub lesser_of-third-requires : goal.lesser_of-third-requires
lesser_of-third-requires c = record { fact_1 = c.requires.fact_1; fact_2 = c.requires.fact_2; fact_3 = c.requires.fact_3; fact_4 = (one (goal.at.lesser_of-third-requires c).After-lesser_of-second).within }

pub lesser_of-requires : goal.lesser_of-requires
lesser_of-requires c = record { fact_1 = c.requires.fact_1; fact_2 = c.requires.fact_2; fact_3 = c.requires.fact_3; fact_4 = (two (goal.at.lesser_of-requires c).After-lesser_of-third).within }

pub returns : goal.returns
returns c =
    lowest-found (one (goal.at.returns c).After-lesser_of-second) (two (goal.at.returns c).After-lesser_of-third) (first-lower {r = (rank_in c.args.extent.v c.args.extent.f c.args.w.now c.args.q.now)} (two (goal.at.returns c).After-lesser_of-third).within c.lesser_of.ensures)
