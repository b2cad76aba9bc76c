-- `foldtest::fair::normal_after` meets its contract: the normal of the three points, each where the fold moves it.
-- Assumes nothing.
use Rattle.foldtest.proofs.fair.normal_after.Goals as goal

pub moved-requires : goal.moved-requires
moved-requires c = c.requires.a_in

pub moved-requires-2 : goal.moved-requires-2
moved-requires-2 c = c.requires.b_in

pub moved-requires-3 : goal.moved-requires-3
moved-requires-3 c = c.requires.c_in

pub normal-requires : goal.normal-requires
normal-requires c = tt

pub returns : goal.returns
returns c =
    rw (c.normal.ensures, c.moved.ensures, c.moved-2.ensures, c.moved-3.ensures)
