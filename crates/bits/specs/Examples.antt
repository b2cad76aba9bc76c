-- The examples that document 01 marks (P), as one list with one proof over it. The proof computes them from the definitions.
use Rattle.std.specs.Prelude.{◌≡◌, ℕ, Bool, true, not, ◌&&◌, List, [], ◌∷◌, ◌==◌, refl}
use Rattle.std.specs.Float.{binary32}
use Rattle.std.specs.Float.Ieee.{of_bits}
use Rattle.bits.specs.Root.{root_bits}
use Rattle.bits.specs.Narrow.{narrow_bits}
use Rattle.bits.specs.Order.{total_order}
use Rattle.bits.specs.Cut.{target}

-- One example: what is asked, on bit patterns, and what document 01 says.
pub data Example : Type 0 where
  root_of : ℕ → ℕ → Example
  narrow_of : ℕ → ℕ → Example
  below : ℕ → ℕ → Example
  target_of : ℕ → ℕ → ℕ → Example

-- whether an example comes out as it says
unfoldable pub holds : Example → Bool
unfolding root_bits narrow_bits total_order target of_bits
holds (root_of x r) = root_bits x == r
holds (narrow_of x r) = narrow_bits x == r
holds (below x y) = total_order x y && not (total_order y x)
holds (target_of faces ratio r) = target (of_bits binary32 ratio) faces == r

unfoldable pub all_hold : List Example → Bool
unfolding holds
all_hold [] = true
all_hold (e ∷ es) = holds e && all_hold es

pub examples : List Example
examples =
    -- roots of 2.0, 2^-149, 4.0 and +0
    root_of 0x4000_0000 0x3fb5_04f3
    ∷ root_of 0x0000_0001 0x1a35_04f3
    ∷ root_of 0x4080_0000 0x4000_0000
    ∷ root_of 0x0000_0000 0x0000_0000
    -- 1 + 2^-24, 1 + 3 * 2^-24, 2^-150 and 2^128 - 2^103, narrowed
    ∷ narrow_of 0x3ff0_0000_1000_0000 0x3f80_0000
    ∷ narrow_of 0x3ff0_0000_3000_0000 0x3f80_0002
    ∷ narrow_of 0x3690_0000_0000_0000 0x0000_0000
    ∷ narrow_of 0x47ef_ffff_f000_0000 0x7f80_0000
    -- -0.0 is below +0.0
    ∷ below 0x8000_0000_0000_0000 0x0000_0000_0000_0000
    -- four faces at ratio 1, 2^-24 and 2^-25
    ∷ target_of 4 0x3f80_0000 0
    ∷ target_of 4 0x3380_0000 3
    ∷ target_of 4 0x3300_0000 4
    ∷ []

-- document 01's examples come out
pub examples-hold : all_hold examples ≡ true
unfolding all_hold examples
examples-hold = refl
