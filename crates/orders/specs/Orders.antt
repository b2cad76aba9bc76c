-- The orders of a call, by their places.
use Rattle.std.specs.Prelude.{ℕ, List, false, get_or}
use Rattle.std.specs.Float.{binary32}
use Rattle.std.specs.Float.Ieee.{of_bits}
use Rattle.orders.specs.declared.Part.{Part}
use Rattle.orders.specs.declared.Order.{Order}
use Rattle.orders.specs.Parts.{part}

-- an order with parts of the outputs alone: nothing to thin
abbrev pub nothing_into : (points faces : Part) → Order
nothing_into points faces =
    record {
      points = part 0 0;
      faces = part 0 0;
      margin = part 0 0;
      unit = 0;
      ratio = of_bits binary32 0;
      preserve = false;
      limited = false;
      limit = of_bits binary32 0;
      out_points = points;
      out_faces = faces;
    }

-- the order at a place. No order stands past the end; what is there is never looked at
abbrev pub no_order : Order
no_order = nothing_into (part 0 0) (part 0 0)

abbrev pub order_at : List Order → ℕ → Order
order_at orders place = get_or orders place no_order
