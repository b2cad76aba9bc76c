-- `foldtest::fair::normal_before` meets its contract: the normal of the three points that were read.
-- Assumes nothing.
use Rattle.foldtest.proofs.fair.normal_before.Goals as goal

pub point_at-requires : goal.point_at-requires
point_at-requires c = c.requires.a_in

pub point_at-requires-2 : goal.point_at-requires-2
point_at-requires-2 c = c.requires.b_in

pub point_at-requires-3 : goal.point_at-requires-3
point_at-requires-3 c = c.requires.c_in

pub normal-requires : goal.normal-requires
normal-requires c = tt

pub returns : goal.returns
returns c =
    rw (c.normal.ensures, c.point_at.ensures, c.point_at-2.ensures, c.point_at-3.ensures)
