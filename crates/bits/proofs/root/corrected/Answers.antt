-- `bits::root::corrected` meets its contract. The way down keeps the guess in range and ends with the half-way point below it, squared, under n.
-- The way up keeps that, and ends with the one above it over n. Assumes nothing.
use Rattle.std.proofs.Common.{mul-le-mul_right, arith}
use Rattle.bits.proofs.RootScaled.{root-high, square-next}
use Rattle.bits.proofs.root.corrected.Goals as goal

pub overflow_mul-r : goal.overflow_mul-r
overflow_mul-r c = omega (arith, mul-le-mul_right c.loop-r.r c.loop-r.invariant)

pub overflow_sub-r : goal.overflow_sub-r
overflow_sub-r c = omega (arith, mul-le-mul_right c.loop-r.r c.loop-r.invariant)

pub loop-r-smaller : goal.loop-r-smaller
loop-r-smaller c = omega (arith, mul-le-mul_right c.loop-r.r c.loop-r.invariant)

pub overflow_mul-r-in-loop-r-2 : goal.overflow_mul-r-in-loop-r-2
overflow_mul-r-in-loop-r-2 c = omega (arith, root-high c.args.n c.loop-r-2.r (omega arith) c.loop-r-2.invariant)

pub overflow_add-r : goal.overflow_add-r
overflow_add-r c = omega (arith, root-high c.args.n c.loop-r-2.r (omega arith) c.loop-r-2.invariant)

pub loop-r-2-smaller : goal.loop-r-2-smaller
loop-r-2-smaller c = omega (arith, root-high c.args.n c.loop-r-2.r (omega arith) c.loop-r-2.invariant)

pub loop-r-2-preserved : goal.loop-r-2-preserved
loop-r-2-preserved c = omega (arith, square-next c.loop-r-2.r)
