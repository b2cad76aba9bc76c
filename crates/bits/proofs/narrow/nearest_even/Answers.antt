-- `bits::narrow::nearest_even` meets its contract: the shift makes a half of the unit (`halved`), and raising by just under it and by the
-- last digit rounds to nearest, ties to even (`half-even`). Assumes nothing.
use Rattle.std.proofs.Common.{◌-◌, ◌^◌, arith, pow_pos, rules}
use Rattle.bits.proofs.HalfEven.{Halved, halved, half-even}
use Rattle.bits.proofs.narrow.nearest_even.Goals as goal
use Rattle.bits.proofs.narrow.nearest_even.Goals.{Start}

half : (c : Start) → Halved c.args.places
half c = halved c.args.places (search rules) (search rules)

pub overflow_sub-below_half-2 : goal.overflow_sub-below_half-2
overflow_sub-below_half-2 c = let h = half (goal.at.overflow_sub-below_half-2 c).Start in omega arith

pub overflow_add-result : goal.overflow_add-result
overflow_add-result c = let h = half (goal.at.overflow_add-result c).Start in omega arith

pub overflow_add-result-2 : goal.overflow_add-result-2
overflow_add-result-2 c = let h = half (goal.at.overflow_add-result-2 c).Start in omega arith

pub returns : goal.returns
returns c = rw (half (goal.at.returns c).Start).shifted (half-even c.args.n (2 ^ c.args.places) (2 ^ (c.args.places - 1)) (pow_pos c.args.places) (half (goal.at.returns c).Start).twice)
