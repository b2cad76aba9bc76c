-- In a call that isn't refused as a whole every order fits, at any time at which the buffers are as long as they were.
-- Assumes nothing.
use Prim.Native.Nat.{ℕ, ◌<◌}
use mathlib.Core.Path.{◌≡◌}
use mathlib.Core.Bool.{false}
use mathlib.Core.List.{List}
use native.Mathlib.Omega.{arith}
use lib.ListN.{length}
use Rattle.orders.specs.declared.Order.{Order}
use Rattle.orders.specs.Orders.{order_at}
use Rattle.orders.specs.Refused.{refused}
use Rattle.orders.proofs.FineLaws.{fine-count, fine-within}
use Rattle.serving.specs.Desks.{Sources, Desk, buffers_of}
use Rattle.serving.specs.Clauses.{AsLong, Fits}

module _ (s : Sources) (orders : List Order) (before : Desk) (fine : refused orders (buffers_of s before) ≡ false) where
  pub fine-fits : (k : ℕ) → k < length orders → (d : Desk) → AsLong d.buffers before.buffers → length d.answers ≡ length before.answers →
      length d.closed ≡ length before.closed → Fits s (order_at orders k) k d
  fine-fits k less d as_long answers closed =
      let count = fine-count orders (buffers_of s before) fine in
      let within = fine-within orders (buffers_of s before) fine k less in
      record {
        points = within.0;
        faces = within.1;
        margin = within.2;
        points_written = rw as_long.points within.3;
        faces_written = rw as_long.faces within.4;
        answer = omega (arith, count.1, answers, less);
        closed = omega (arith, count.2, closed, less);
      }
