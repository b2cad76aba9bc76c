-- `openpairs::opening::open_around` meets its contract: the points are listed, and each is opened with x where the pair is eligible.
-- Assumes nothing.
use native.Mathlib.Omega.{arith}
use Rattle.openpairs.proofs.AddLaws.{listed-ready, added}
use Rattle.openpairs.proofs.opening.open_around.Goals as goal

pub open_listed-requires : goal.open_listed-requires
open_listed-requires c =
    listed-ready c.list_around-count.ensures c.requires.point c.args.p.now c.args.q.now c.args.bounds.limit c.args.bounds.size
    c.requires.tidy c.requires.points_long c.requires.quadrics_long c.requires.room

pub returns : goal.returns
returns c =
    added c.list_around-count.ensures c.requires.point c.args.p.now c.args.q.now c.args.bounds.limit c.args.bounds.size
    (omega (arith, c.requires.room)) c.open_listed.ensures
