-- `bits::root::root` meets its contract: the root of a float is that of its pattern. Assumes nothing.
use Rattle.std.proofs.Common.{ap, ◌∙◌}
use lib.Ieee.{binary32, of_bits}
use Rattle.bits.specs.Root.{root_bits, root}
use Rattle.bits.proofs.root.root.Goals as goal

pub returns : goal.returns
unfolding root
returns c =
    let pattern = c.root_bits.ensures ∙ ap root_bits c.bits_of_f32.ensures in
    c.f32_of.ensures ∙ ap (of_bits binary32) pattern
