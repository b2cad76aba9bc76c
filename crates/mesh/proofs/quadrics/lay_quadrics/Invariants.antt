-- `mesh::quadrics::lay_quadrics` meets its contract. The loop's invariant: each quadric is what the first `k` faces have added up to.
-- Assumes nothing.
use Prim.Native.Nat.{◌≤◌}
use Rattle.mesh.specs.Clauses.Quadrics.{QuadricsAre}
use Rattle.mesh.proofs.QuadricLaws.{gathered_to}
use Rattle.mesh.proofs.quadrics.lay_quadrics.Given as goal

abbrev pub invariant-loop-k : goal.invariant-loop-k
invariant-loop-k l = (l.k ≤ l.extent.f) × QuadricsAre l.extent.v (gathered_to l.w l.p l.k) l.initial.q l.q
