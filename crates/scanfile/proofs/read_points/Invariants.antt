-- `scanfile::read_points` meets its contract. The loop's invariant: the first `i` coordinates are written.
-- Assumes nothing.
use Prim.Native.Nat.{◌*◌}
use lib.Ieee.{binary32, of_bits}
use Rattle.scanfile.proofs.ContentLaws.{Reading}
use Rattle.scanfile.proofs.read_points.Given as goal

abbrev pub invariant-loop-i : goal.invariant-loop-i
invariant-loop-i l = Reading (of_bits binary32) l.bytes 24 (3 * l.points) l.cell-items l.i
