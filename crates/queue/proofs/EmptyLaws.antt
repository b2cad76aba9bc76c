-- The queue at the start: the stamps are cleared.
-- Assumes nothing.
use Prim.Native.Nat.{ℕ, zero-le}
use native.Mathlib.Omega.{arith}
use mathlib.Core.List.{List}
use lib.Ieee.{Float}
use Rattle.lists.specs.Frames.{Written}
use Rattle.lists.proofs.FrameLaws.{but-widen}
use Rattle.memory.specs.Entries.{EntryRoom}
use Rattle.memory.specs.Layout.{stamps_from}
use Rattle.queue.specs.Clauses.Changes.{Emptied}

pub emptied : {v f : ℕ} {w w' : List ℕ} {p q : List Float} → EntryRoom v f w p q → Written (stamps_from v f) v (λ i. 0) w w' → Emptied v f w p q w'
emptied enough stamps =
    let room = enough.room in
    record {
      but = but-widen (omega arith) (omega arith) stamps.but;
      stamps = λ x inside. stamps.cells x inside;
      queue = record {
        enough = record {
          room = record { points_few = room.points_few; faces_few = room.faces_few; long = rw stamps.but.same_length room.long };
          places_long = enough.places_long;
          costs_long = enough.costs_long;
        };
        few = zero-le;
        ordered = λ k positive inside low. absurd (omega arith);
      };
    }
