-- `thinning::answered` meets its contract: in each arm the definition's test is decided as the code's, and what `write_mesh` counted fits.
-- Assumes nothing.
use mathlib.Core.Path.{refl}
use Rattle.lists.proofs.FrameLaws.{but-refl}
use Rattle.thinning.proofs.MemoryLaws.{used-fits, live-fits, written-finished}
use Rattle.walking.proofs.FitLaws.{below-fits}
use Rattle.thinning.proofs.answered.Goals as goal

pub returns-then-came-extent : goal.returns-then-came-extent
returns-then-came-extent c = rw c.if-came-extent.true (record { but = but-refl _ _ _; answered = c.stuck.ensures; points_written = refl; faces_written = refl })

pub overflow_cast-result : goal.overflow_cast-result
overflow_cast-result c = used-fits c.requires.fact_1 c.write_mesh-counts.ensures.points_counted

pub overflow_cast-result-2 : goal.overflow_cast-result-2
overflow_cast-result-2 c = live-fits c.requires.fact_1 c.write_mesh-counts.ensures.faces_counted

pub overflow_cast-result-3 : goal.overflow_cast-result-3
overflow_cast-result-3 c = below-fits c.requires.fact_5.1 c.requires.fact_1.room.faces_few

pub returns : goal.returns
returns c =
    rw c.if-came-extent.false (written-finished c.args.came.folds c.args.came.closed c.write_mesh-counts.ensures)
