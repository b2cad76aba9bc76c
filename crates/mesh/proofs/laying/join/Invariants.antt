-- `mesh::laying::join` meets its contract. The loop's invariant: the corners from `c` on are in their chains.
-- Assumes nothing.
use Rattle.mesh.proofs.JoinLaws.{Joining}
use Rattle.mesh.proofs.laying.join.Given as goal

abbrev pub invariant-loop-c : goal.invariant-loop-c
invariant-loop-c l = Joining l.extent.v l.extent.f l.initial.w l.w l.c
