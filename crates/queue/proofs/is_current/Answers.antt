-- `queue::is_current` meets its contract: each stamp is compared with the present one of its point. Assumes nothing.
use mathlib.Core.Path.{ap, ap₂}
use mathlib.Core.Bool.{◌&&◌}
use lib.Dec.{eqb}
use Rattle.queue.proofs.is_current.Goals as goal

pub returns : goal.returns
returns c =
    ap₂ ◌&&◌
    (ap (eqb _) c.stamp_at.ensures)
    (ap (eqb _) c.stamp_at-2.ensures)
