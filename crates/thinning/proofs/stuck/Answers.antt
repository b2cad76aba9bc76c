-- `thinning::stuck` meets its contract: the test is the definition's own.
-- Assumes nothing.
use mathlib.Core.Path.{◌∙◌}
use borrow.Author.Tests.{lt-ltb, le-ltb}
use Rattle.thinning.proofs.stuck.Goals as goal

pub returns-then-fixed-gt0 : goal.returns-then-fixed-gt0
returns-then-fixed-gt0 c = c.without_mesh.ensures ∙ rw (lt-ltb 0 _ c.if-fixed-gt0.true)

pub returns-else-fixed-gt0 : goal.returns-else-fixed-gt0
returns-else-fixed-gt0 c = c.without_mesh-else-fixed-gt0.ensures ∙ rw (le-ltb 0 _ c.if-fixed-gt0.false)
