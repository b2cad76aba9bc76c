-- `mesh::quadrics::start_quadrics` meets its contract. The loop's invariant: the quadrics of the points below `x` are zero.
-- Assumes nothing.
use native.Mathlib.Omega.{arith}
use mathlib.Core.Path.{◌≡◌}
use Rattle.mesh.proofs.QuadricLaws.{quadrics-none, quadrics-more}
use Rattle.mesh.proofs.quadrics.start_quadrics.Goals as goal

pub loop-x-init : goal.loop-x-init
loop-x-init c = (omega arith, quadrics-none _ _)

pub start-requires : goal.start-requires
start-requires c = tt

pub loop-x-preserved : goal.loop-x-preserved
loop-x-preserved c =
    (omega arith, rw (c.set_quadric.ensures, c.start.ensures) (quadrics-more (omega arith) c.loop-x.invariant.1))

pub returns : goal.returns
returns c =
    let done : c.args.v ≡ c.loop-x.x = omega arith in
    rw done c.loop-x.invariant.1
