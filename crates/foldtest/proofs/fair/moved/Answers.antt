-- `foldtest::fair::moved` meets its contract: each test that led to a return is a test of the definition.
-- Assumes nothing.
use borrow.Author.Tests.{eq-eqb, ne_eqb}
use Rattle.foldtest.proofs.fair.moved.Goals as goal

pub returns-then-x-fold : goal.returns-then-x-fold
returns-then-x-fold c = rw (eq-eqb _ _ c.if-x-fold.true)

pub returns-then-x-fold-2 : goal.returns-then-x-fold-2
returns-then-x-fold-2 c =
    rw (ne_eqb _ _ c.if-x-fold.false, eq-eqb _ _ c.if-x-fold-2.true)

pub returns : goal.returns
returns c =
    rw (ne_eqb _ _ c.if-x-fold.false, ne_eqb _ _ c.if-x-fold-2.false) c.point_at.ensures
