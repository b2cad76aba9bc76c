-- `ring::borders::border_kind` meets its contract, by what `is_border` says of the point.
-- Assumes nothing.
use Rattle.ring.proofs.borders.border_kind.Goals as goal

pub returns-then-is_border : goal.returns-then-is_border
returns-then-is_border c =
    record { value = rw (c.if-preserve.true, ← c.is_border.ensures.value, c.if-is_border.true); but = c.is_border.ensures.but }

pub returns-else-is_border : goal.returns-else-is_border
returns-else-is_border c =
    record { value = rw (c.if-preserve.true, ← c.is_border.ensures.value, c.if-is_border.false); but = c.is_border.ensures.but }
