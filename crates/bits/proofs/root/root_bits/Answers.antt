-- `bits::root::root_bits` meets its contract, case by case: a finite pattern by `finite_root`; the others are tests.
-- Assumes nothing.
use Rattle.std.proofs.Common.{sym, ap, ◌∙◌, arith}
use Rattle.bits.specs.Root.{root_bits}
use Rattle.bits.proofs.RootLaws.{root_bits-finite, root_bits-other}
use Rattle.bits.proofs.root.root_bits.Goals as goal

pub returns-then-b-lt2139095040 : goal.returns-then-b-lt2139095040
returns-then-b-lt2139095040 c = c.finite_root.ensures ∙ sym (root_bits-finite _ (omega arith))

pub returns-then-b-eq2139095040 : goal.returns-then-b-eq2139095040
unfolding root_bits
returns-then-b-eq2139095040 c = sym (ap root_bits c.if-b-eq2139095040.true)

pub returns-then-b-eq2147483648 : goal.returns-then-b-eq2147483648
unfolding root_bits
returns-then-b-eq2147483648 c = sym (ap root_bits c.if-b-eq2147483648.true)

pub returns : goal.returns
returns c = sym (root_bits-other _ (omega arith) c.if-b-eq2139095040.false c.if-b-eq2147483648.false)
