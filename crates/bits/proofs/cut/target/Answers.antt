-- `bits::cut::target` is the definition, step for step: the product that the code works out is the one that is cut.
use Rattle.std.proofs.Common.{◌≡◌, ℕ, pos, refl, ◌∙◌}
use lib.Ieee.{Float, binary32, of_bits, of_int, sub, mul}
use Rattle.bits.specs.Cut.{cut, target}
use Rattle.bits.proofs.cut.target.Goals as goal

-- the definition, with 1.0 by its bit pattern
as_written : (ratio : Float) (faces : ℕ) → cut (mul binary32 (sub binary32 (of_bits binary32 0x3f80_0000) ratio) (of_int binary32 (pos faces))) ≡ target ratio faces
unfolding of_bits target
as_written ratio faces = refl

pub returns : goal.returns
returns c = c.cut.ensures ∙ rw c.nearest_u32_to_f32.ensures (as_written _ _)
