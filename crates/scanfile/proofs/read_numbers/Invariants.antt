-- `scanfile::read_numbers` meets its contract. The loop's invariant: the first `i` numbers are written.
-- Assumes nothing.
use Prim.Native.Nat.{ℕ}
use Rattle.scanfile.proofs.ContentLaws.{Reading}
use Rattle.scanfile.proofs.read_numbers.Given as goal

abbrev pub invariant-loop-i : goal.invariant-loop-i
invariant-loop-i l = Reading (λ (x : ℕ). x) l.bytes l.at l.n l.cell-items l.i
