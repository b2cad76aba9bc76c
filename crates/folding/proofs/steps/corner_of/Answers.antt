-- `folding::steps::corner_of` meets its contract: each return is one of the three cases of `corner_of`.
-- Assumes nothing.
use Rattle.folding.proofs.CornerLaws.{corner-first, corner-second, corner-third}
use Rattle.folding.proofs.steps.corner_of.Goals as goal

pub returns-then-corner_at-x : goal.returns-then-corner_at-x
returns-then-corner_at-x c = corner-first _ _ _ c.corner_at.ensures c.if-corner_at-x.true

pub returns-then-corner_at-x-2 : goal.returns-then-corner_at-x-2
returns-then-corner_at-x-2 c =
    corner-second _ _ _ c.corner_at.ensures c.if-corner_at-x.false c.corner_at-2.ensures c.if-corner_at-x-2.true

pub returns : goal.returns
returns c =
    corner-third _ _ _ c.corner_at.ensures c.if-corner_at-x.false c.corner_at-2.ensures c.if-corner_at-x-2.false
