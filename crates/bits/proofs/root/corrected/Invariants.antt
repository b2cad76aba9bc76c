-- `bits::root::corrected` meets its contract. The way down keeps the guess in range and ends with the half-way point below it, squared, under n.
-- The way up keeps that, and ends with the one above it over n. Assumes nothing.
use Rattle.std.proofs.Common.{◌+◌, ◌-◌, ◌*◌, ◌<◌, ◌≤◌}
use Rattle.bits.proofs.root.corrected.Given as goal

abbrev pub invariant-loop-r : goal.invariant-loop-r
invariant-loop-r l = l.r ≤ 0x3ff_ffff

abbrev pub invariant-loop-r-2 : goal.invariant-loop-r-2
invariant-loop-r-2 l = l.r * l.r < l.n + l.r

abbrev pub decreases-loop-r : goal.decreases-loop-r
decreases-loop-r l = l.r

abbrev pub decreases-loop-r-2 : goal.decreases-loop-r-2
decreases-loop-r-2 l = 0x100_0000 - l.r
