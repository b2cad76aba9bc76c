-- `placement::place::solve` meets its contract: each row of the inverse times the column, from what the calls ensure. Assumes nothing.
use Rattle.placement.specs.Places.{solved}
use Rattle.placement.proofs.place.solve.Goals as goal

pub returns-in_err-rows : goal.returns-in_err-rows
unfolding solved
returns-in_err-rows c = rw (c.from_residual.ensures, ← c.inverse.ensures, c.in_err-rows.was)

pub returns : goal.returns
unfolding solved
returns c =
    rw (
      ← c.inverse.ensures,
      c.in_ok-rows.was,
      c.solved_part-3.ensures,
      c.solved_part-2.ensures,
      c.solved_part.ensures,
    )
