-- `plainwalk::plain_walk` meets its contract: once the first pairs are open the memory holds the start, and the walk from there is the whole walk.
-- Assumes nothing.
use Rattle.plainwalk.proofs.WalkLaws.{start-holds, walk-done}
use Rattle.plainwalk.proofs.plain_walk.Goals as goal

pub open_start-open-requires : goal.open_start-open-requires
open_start-open-requires c = record { fact_1 = c.requires.fact_1; fact_2 = c.requires.fact_3; fact_3 = c.requires.fact_4 }

pub walk_on-requires : goal.walk_on-requires
walk_on-requires c =
    start-holds c.args.p.now c.args.q.now c.args.bounds.limit c.args.bounds.size c.requires.fact_1 c.requires.fact_2 c.requires.fact_3 c.requires.fact_4
    c.open_start-open.ensures

pub returns : goal.returns
returns c =
    walk-done c.args.p.now c.args.q.now c.args.bounds.limit c.args.bounds.size c.requires.fact_1 c.requires.fact_2 c.requires.fact_3 c.requires.fact_4
    c.open_start-open.ensures c.walk_on.ensures
