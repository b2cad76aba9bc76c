-- `output::writing::write_mesh` meets its contract. The loop's invariant: the live faces among the first `k` slots are written.
-- Assumes nothing.
use Rattle.output.proofs.SlotLaws.{Turn}
use Rattle.output.proofs.writing.write_mesh.Given as goal

abbrev pub invariant-loop-k : goal.invariant-loop-k
invariant-loop-k l = Turn l.extent.v l.extent.f l.p l.initial.w l.initial.out_points l.initial.out_faces l.w l.out_points l.out_faces l.counts l.k
