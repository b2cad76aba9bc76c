-- `ring::borders::is_single` meets its contract: each test that led to a return is a test of the definition.
-- Assumes nothing.
use borrow.Author.Tests.{eq-eqb, ne_eqb}
use Rattle.ring.proofs.borders.is_single.Goals as goal

pub returns-then-x-point : goal.returns-then-x-point
returns-then-x-point c = rw (eq-eqb _ _ c.if-x-point.true)

pub returns : goal.returns
returns c = rw (ne_eqb _ _ c.if-x-point.false, c.mark_at.ensures)
