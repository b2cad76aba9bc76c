-- `geometry::plane_of` meets its contract: the level plane where the normal isn't finite, and else the plane through the first corner.
-- Assumes nothing.
use Rattle.geometry.specs.Planes.{plane_of}
use Rattle.geometry.proofs.plane_of.Goals as goal

pub unit_normal-n-requires : goal.unit_normal-n-requires
unit_normal-n-requires c = tt

pub all_finite-requires : goal.all_finite-requires
all_finite-requires c = tt

pub widen-requires : goal.widen-requires
widen-requires c = tt

pub widen-requires-then-all_finite : goal.widen-requires-then-all_finite
widen-requires-then-all_finite c = tt

pub widen-requires-then-all_finite-2 : goal.widen-requires-then-all_finite-2
widen-requires-then-all_finite-2 c = tt

pub dot-requires : goal.dot-requires
dot-requires c = tt

pub widen-requires-then-all_finite-3 : goal.widen-requires-then-all_finite-3
widen-requires-then-all_finite-3 c = tt

pub returns-then-all_finite : goal.returns-then-all_finite
unfolding plane_of
returns-then-all_finite c =
    rw (
      ← c.unit_normal-n.ensures,
      ← c.all_finite.ensures,
      c.if-all_finite.true,
      c.widen-then-all_finite-3.ensures,
      c.dot.ensures,
      c.widen-then-all_finite-2.ensures,
      c.widen-then-all_finite.ensures,
      c.widen.ensures,
    )

pub returns-else-all_finite : goal.returns-else-all_finite
unfolding plane_of
returns-else-all_finite c = rw (← c.unit_normal-n.ensures, ← c.all_finite.ensures, c.if-all_finite.false)
