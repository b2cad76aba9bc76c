-- `placement::inverse::inverse` meets its contract: none where the determinant is zero, and else the three rows that the calls ensure. Assumes nothing.
use Rattle.placement.specs.Inverses.{inverse}
use Rattle.placement.proofs.inverse.inverse.Goals as goal

pub returns-then-det : goal.returns-then-det
unfolding inverse
returns-then-det c = rw (rw (c.determinant-det.ensures, c.block_of-m.ensures) at c.if-det.true)

pub returns : goal.returns
unfolding inverse
returns c =
    rw (
      rw (c.determinant-det.ensures, c.block_of-m.ensures) at c.if-det.false,
      c.third_row.ensures,
      c.second_row.ensures,
      c.first_row.ensures,
      c.determinant-det.ensures,
      c.block_of-m.ensures,
    )
