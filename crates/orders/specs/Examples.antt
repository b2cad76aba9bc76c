-- Calls that are refused as a whole, and others that aren't, as one list with one proof over it, which computes them from the definitions.
use Rattle.std.specs.Prelude.{ℕ, ◌≡◌, refl, [], ◌∷◌, Bool, true, false, replicate}
use Rattle.lists.specs.Lists.{some, below}
use Rattle.orders.specs.declared.Buffers.{Buffers}
use Rattle.orders.specs.Parts.{part}
use Rattle.orders.specs.Orders.{nothing_into, no_order}
use Rattle.orders.specs.Refused.{refused}

-- buffers of ten cells, and lists of answers of some lengths
abbrev lists : (answers closed : ℕ) → Buffers
lists answers closed = record { points = 10; faces = 10; margins = 10; out_points = 10; out_faces = 10; answers = answers; closed = closed }

-- two orders, by the first cell and the length of their parts of the points; their parts of the faces are empty
abbrev two : (a m b n : ℕ) → Bool
two a m b n = refused (nothing_into (part a m) (part 0 0) ∷ nothing_into (part b n) (part 0 0) ∷ []) (lists 10 6)

-- one order, with a part of the points
abbrev one : (a m : ℕ) → Bool
one a m = refused (nothing_into (part a m) (part 0 0) ∷ []) (lists 10 6)

pub examples-hold :
    -- touching, either way round; sharing a cell, either way round; one within the other; an empty one within the other, and two that are equal
    (two 0 3 3 3 ≡ false) × (two 3 3 0 3 ≡ false) × (two 0 4 3 3 ≡ true) × (two 3 3 0 4 ≡ true) × (two 0 10 4 1 ≡ true) × (two 0 10 4 0 ≡ false) × (two 4 1 4 1 ≡ true)
    -- to the buffer's end, past it, empty at the end, empty past it, and where the sum is more than 64 bits hold
    × (one 8 2 ≡ false) × (one 8 3 ≡ true) × (one 10 0 ≡ false) × (one 11 0 ≡ true) × (one 18446744073709551615 2 ≡ true)
    -- faces that share a cell where the points don't
    × (refused (nothing_into (part 0 3) (part 0 3) ∷ nothing_into (part 3 3) (part 2 3) ∷ []) (lists 10 6) ≡ true)
    -- lists of answers that are too short by one; no orders; 64 and 65
    × (refused (no_order ∷ no_order ∷ []) (lists 9 6) ≡ true) × (refused (no_order ∷ no_order ∷ []) (lists 10 5) ≡ true) × (refused [] (lists 0 0) ≡ false)
    × (refused (replicate 64 no_order) (lists 320 192) ≡ false) × (refused (replicate 65 no_order) (lists 325 195) ≡ true)
unfolding refused some below
examples-hold = (refl, refl, refl, refl, refl, refl, refl, refl, refl, refl, refl, refl, refl, refl, refl, refl, refl, refl)
