-- `records::four_bytes` meets its contract. Assumes nothing.
use Prim.Native.Nat.{◌+◌}
use native.Mathlib.Omega.{arith}
use mathlib.Core.Path.{◌≡◌}
use Rattle.records.specs.Words.{four_bytes}
use Rattle.records.proofs.four_bytes.Goals as goal

pub returns : goal.returns
unfolding four_bytes
returns c = let last : c.args.at + 2 + 1 ≡ c.args.at + 3 = omega arith in rw last (omega arith)
