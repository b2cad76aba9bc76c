-- `bits::root::first_guess` is safe, and its result is in range. How near it is isn't shown. Assumes nothing.
use Rattle.std.proofs.Common.{◌+◌, ◌*◌, arith}
use Rattle.bits.proofs.TableLaws.{entry-small}
use Rattle.bits.proofs.GuessLaws.{Small, small, guess_small}
use Rattle.bits.proofs.root.first_guess.Goals as goal
use Rattle.bits.proofs.root.first_guess.Goals.{After-entry}

bounds : (c : After-entry) → Small (4 * c.entry.result + 3) c.args.m
bounds c = small _ _ (omega (arith, entry-small _ c.entry.result (omega arith) c.entry.ensures))

pub overflow_mul-x : goal.overflow_mul-x
overflow_mul-x c = omega (arith, (bounds (goal.at.overflow_mul-x c).After-entry).number)

pub overflow_add-x : goal.overflow_add-x
overflow_add-x c = omega (arith, (bounds (goal.at.overflow_add-x c).After-entry).number)

pub overflow_mul-square : goal.overflow_mul-square
overflow_mul-square c = omega (arith, (bounds (goal.at.overflow_mul-square c).After-entry).number)

pub overflow_mul-square-2 : goal.overflow_mul-square-2
overflow_mul-square-2 c = omega (arith, (bounds (goal.at.overflow_mul-square-2 c).After-entry).square)

pub overflow_mul-divisor : goal.overflow_mul-divisor
overflow_mul-divisor c = omega (arith, (bounds (goal.at.overflow_mul-divisor c).After-entry).square)

pub overflow_add-divisor : goal.overflow_add-divisor
overflow_add-divisor c = omega (arith, (bounds (goal.at.overflow_add-divisor c).After-entry).square)

pub overflow_add-result : goal.overflow_add-result
overflow_add-result c = omega (arith, (bounds (goal.at.overflow_add-result c).After-entry).square)

pub overflow_mul-result-2 : goal.overflow_mul-result-2
overflow_mul-result-2 c = omega (arith, (bounds (goal.at.overflow_mul-result-2 c).After-entry).square, (bounds (goal.at.overflow_mul-result-2 c).After-entry).product)

pub overflow_mul-result-3 : goal.overflow_mul-result-3
overflow_mul-result-3 c = omega (arith, (bounds (goal.at.overflow_mul-result-3 c).After-entry).square, (bounds (goal.at.overflow_mul-result-3 c).After-entry).product)

pub overflow_add-result-2 : goal.overflow_add-result-2
overflow_add-result-2 c = omega (arith, (bounds (goal.at.overflow_add-result-2 c).After-entry).square, (bounds (goal.at.overflow_add-result-2 c).After-entry).product)

pub returns : goal.returns
returns c = guess_small _ _ c.args.m (omega arith) (bounds (goal.at.returns c).After-entry).product
