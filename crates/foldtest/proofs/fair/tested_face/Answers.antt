-- `foldtest::fair::tested_face` meets its contract: the two normals, judged.
-- Assumes nothing.
use Rattle.meaning.specs.Arithmetic.{squashed_points, turned_points}
use Rattle.foldtest.proofs.fair.tested_face.Goals as goal

pub normal_before-requires : goal.normal_before-requires
normal_before-requires c = c.requires

pub normal_after-requires : goal.normal_after-requires
normal_after-requires c = c.requires

pub judged-requires : goal.judged-requires
judged-requires c = tt

pub returns : goal.returns
unfolding squashed_points turned_points
returns c = rw (c.judged.ensures, c.normal_after.ensures, c.normal_before.ensures)
