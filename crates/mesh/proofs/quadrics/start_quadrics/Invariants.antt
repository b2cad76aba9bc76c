-- `mesh::quadrics::start_quadrics` meets its contract. The loop's invariant: the quadrics of the points below `x` are zero.
-- Assumes nothing.
use Prim.Native.Nat.{◌≤◌}
use Rattle.geometry.specs.Quadrics.{zero_quadric}
use Rattle.mesh.specs.Clauses.Quadrics.{QuadricsAre}
use Rattle.mesh.proofs.quadrics.start_quadrics.Given as goal

abbrev pub invariant-loop-x : goal.invariant-loop-x
invariant-loop-x l = (l.x ≤ l.v) × QuadricsAre l.x (λ y. zero_quadric) l.initial.q l.q
