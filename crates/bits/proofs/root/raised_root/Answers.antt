-- `bits::root::raised_root` meets its contract: the number that it takes the root of is in range (`Shifted`), and the check of its root is the statement.
-- Assumes nothing.
use Rattle.std.proofs.Common.{◌≡◌, ℕ, ◌*◌, ◌/◌, ◌%◌, ◌^◌, arith}
use Rattle.bits.proofs.RootSteps.{significand}
use Rattle.bits.proofs.RootScaled.{Shifted, shifted, root-high, nearest-of-shifted}
use Rattle.bits.proofs.root.raised_root.Goals as goal

-- the number, and the part of it that the code has
abbrev part : ℕ → ℕ
part x = significand x * 2 ^ (x / 0x80_0000 % 2) % 2 ^ 32

number : (x : ℕ) → Shifted (significand x) (x / 0x80_0000) (part x * 0x80_0000)
number x = shifted (significand x) (x / 0x80_0000) (omega arith) (omega arith)

pub whole_root-requires : goal.whole_root-requires
whole_root-requires c = let n = number c.args.x in omega (arith, n.big, n.small)

pub overflow_cast-result : goal.overflow_cast-result
overflow_cast-result c = omega (arith, root-high _ c.whole_root.result (number c.args.x).small c.whole_root.ensures.0)

pub overflow_add-result : goal.overflow_add-result
overflow_add-result c = omega (arith, root-high _ c.whole_root.result (number c.args.x).small c.whole_root.ensures.0)

pub returns : goal.returns
returns c =
    let half : c.args.x / 0x100_0000 ≡ c.args.x / 0x80_0000 / 2 = omega arith in
    rw half (nearest-of-shifted _ (c.args.x / 0x80_0000) _ c.whole_root.result (number c.args.x) c.whole_root.ensures.0 c.whole_root.ensures.1)
