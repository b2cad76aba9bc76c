-- What a call with many orders promises (document 02, wish 5): each order's answer and output are those of a call alone; and two calls that have the same
-- order at a place, with the same cells in its own parts, agree on its answer and its output, whatever the other orders are.
-- Assumes nothing.
use Prim.Native.Nat.{ℕ, ◌<◌}
use mathlib.Core.Path.{◌≡◌, sym, ◌∙◌}
use mathlib.Core.Logic.{◌≢◌}
use mathlib.Core.List.{List}
use mathlib.Core.Bool.{Bool}
use lib.ListN.{length}
use lib.Ieee.{Float}
use Rattle.lists.specs.Lists.{overlaid}
use Rattle.lists.proofs.TestLaws.{by-test}
use Rattle.meaning.specs.declared.Rooms.{Rooms}
use Rattle.meaning.specs.Input.{Input, points_in, faces_in}
use Rattle.meaning.specs.Answers.{short}
use Rattle.meaning.specs.Outcome.{outcome}
use Rattle.meaning.specs.Call.{Lent}
use Rattle.walking.specs.declared.Engine.{Engine}
use Rattle.thinning.specs.Told.{options_of, five_of, by_reason}
use Rattle.orders.specs.declared.Order.{Order}
use Rattle.orders.specs.Parts.{cells_of}
use Rattle.orders.specs.Orders.{order_at}
use Rattle.serving.specs.Desks.{Sources, Desk, buffers_of, five_at, three_at, lent_to, input_alone}
use Rattle.orders.specs.Refused.{refused}
use Rattle.hjoltravan.specs.Calls.{Called}
use Rattle.hjoltravan.specs.Orders.{input_at, Served, CalledForOrders}
use Rattle.hjoltravan.proofs.RoomLaws.{same_outcome}

-- what an order is told and given: its answer, the pairs closed, and its parts of the outputs
pub record Got : Type 0 where
  pub five : List ℕ
  pub closed : List ℕ
  pub points : List Float
  pub faces : List ℕ

-- of a call with many orders, at a place
abbrev pub got_at : List Order → Desk → ℕ → Got
got_at orders after k =
    record {
      five = cells_of (five_at k) after.answers;
      closed = cells_of (three_at k) after.closed;
      points = cells_of (order_at orders k).out_points after.buffers.points;
      faces = cells_of (order_at orders k).out_faces after.buffers.faces;
    }

-- of a call alone
abbrev pub got_alone : (left : Lent) (five closed : List ℕ) → Got
got_alone left five closed = record { five = five; closed = closed; points = left.points; faces = left.faces }

-- two calls on inputs with the same outcome, with the same cells in their outputs, give the same
pub same-calls : {i i' : Input} → outcome i ≡ outcome i' → {engine engine' : Engine} {b b' left left' : Lent} {five closed five' closed' : List ℕ} →
    b.points ≡ b'.points → b.faces ≡ b'.faces → Called engine i b left five closed → Called engine' i' b' left' five' closed' → got_alone left five closed ≡ got_alone left' five' closed'
same-calls same points faces a b t =
    record {
      five = (a.told ∙ (λ u. five_of (same u).answer) ∙ sym b.told) t;
      closed = (a.told_closed ∙ (λ u. by_reason (same u).answer) ∙ sym b.told_closed) t;
      points = (a.left.points_written ∙ (λ u. overlaid (same u).points (points u)) ∙ sym b.left.points_written) t;
      faces = (a.left.faces_written ∙ (λ u. overlaid (same u).faces (faces u)) ∙ sym b.left.faces_written) t;
    }

-- not 41: every order was served
pub not-41 : (orders : List Order) (s : Sources) {before after : Desk} {number : ℕ} → CalledForOrders orders s before after number → number ≢ 41 → Served s orders before after
not-41 orders s {before} call other =
    by-test (refused orders (buffers_of s before))
    (λ bad. absurd (other (call.turned_away bad).0))
    (λ fine. (call.served fine).1)

-- ---- as alone

-- whether an output or a work buffer is too short for a mesh (answer 3)
abbrev pub too_short : (i : Input) → Rooms → Bool
too_short i rooms = short (points_in i) (faces_in i) rooms

-- Each order's answer and output equal those of a call alone, by either engine, that has the order's parts as its inputs and outputs, and any work memory: too short
-- for the order in both calls, or in neither.
pub as-alone : (orders : List Order) (s : Sources) {before after : Desk} {number : ℕ} → CalledForOrders orders s before after number → number ≢ 41 →
    (k : ℕ) → k < length orders → {engine : Engine} (b : Lent) {left : Lent} {five closed : List ℕ} →
    b.points ≡ cells_of (order_at orders k).out_points before.buffers.points → b.faces ≡ cells_of (order_at orders k).out_faces before.buffers.faces →
    too_short (input_at s orders before k) (input_at s orders before k).rooms ≡ too_short (input_at s orders before k) (input_alone s (order_at orders k) b).rooms →
    Called engine (input_alone s (order_at orders k) b) b left five closed → got_at orders after k ≡ got_alone left five closed
as-alone orders s {before} call other k less b points faces room alone =
    same-calls (same_outcome (input_at s orders before k) (input_alone s (order_at orders k) b).rooms room) (sym points) (sym faces) ((not-41 orders s call other).each k less) alone

-- ---- isolated

-- Two calls have the same order at a place, the same cells in its parts of the inputs and of the outputs, and work memory that is too short for it in both, or in neither.
pub record SameHere (k : ℕ) (orders orders' : List Order) (s s' : Sources) (before before' : Desk) : Type 0 where
  pub order : order_at orders k ≡ order_at orders' k
  pub points : cells_of (order_at orders k).points s.points ≡ cells_of (order_at orders' k).points s'.points
  pub faces : cells_of (order_at orders k).faces s.faces ≡ cells_of (order_at orders' k).faces s'.faces
  pub margin : cells_of (order_at orders k).margin s.margins ≡ cells_of (order_at orders' k).margin s'.margins
  pub points_written : cells_of (order_at orders k).out_points before.buffers.points ≡ cells_of (order_at orders' k).out_points before'.buffers.points
  pub faces_written : cells_of (order_at orders k).out_faces before.buffers.faces ≡ cells_of (order_at orders' k).out_faces before'.buffers.faces
  pub room : too_short (input_at s orders before k) (input_at s orders before k).rooms ≡ too_short (input_at s orders before k) (input_at s' orders' before' k).rooms

-- so it has the same outcome
same_here : (k : ℕ) (orders orders' : List Order) (s s' : Sources) (before before' : Desk) → SameHere k orders orders' s s' before before' →
    outcome (input_at s orders before k) ≡ outcome (input_at s' orders' before' k)
same_here k orders orders' s s' before before' here =
    same_outcome (input_at s orders before k) (input_at s' orders' before' k).rooms here.room
    ∙ (λ t.
    outcome
    (record {
      points = here.points t;
      faces = here.faces t;
      margin = here.margin t;
      rooms = (input_at s' orders' before' k).rooms;
      options = options_of (here.order t).unit (here.order t).ratio (here.order t).preserve (here.order t).limited (here.order t).limit;
    }))

-- Isolation: the two calls, neither of which gets 41, agree on the order's answer and output, however the other orders differ.
pub isolated : (k : ℕ) (orders orders' : List Order) (s s' : Sources) {before before' after after' : Desk} {number number' : ℕ} →
    CalledForOrders orders s before after number → number ≢ 41 → CalledForOrders orders' s' before' after' number' → number' ≢ 41 →
    k < length orders → k < length orders' → SameHere k orders orders' s s' before before' → got_at orders after k ≡ got_at orders' after' k
isolated k orders orders' s s' {before} {before'} call other call' other' less less' here =
    same-calls (same_here k orders orders' s s' before before' here) here.points_written here.faces_written
    ((not-41 orders s call other).each k less) ((not-41 orders' s' call' other').each k less')

-- In the request's words: over the same lent buffers, changing another order's points, faces, margin or options changes nothing here, provided neither call gets 41 and
-- the change touches no cell of this order's own input parts.
pub changed-elsewhere : (k : ℕ) (orders orders' : List Order) (s s' : Sources) {before after after' : Desk} {number number' : ℕ} →
    CalledForOrders orders s before after number → number ≢ 41 → CalledForOrders orders' s' before after' number' → number' ≢ 41 →
    k < length orders → k < length orders' → order_at orders k ≡ order_at orders' k →
    cells_of (order_at orders k).points s.points ≡ cells_of (order_at orders' k).points s'.points →
    cells_of (order_at orders k).faces s.faces ≡ cells_of (order_at orders' k).faces s'.faces →
    cells_of (order_at orders k).margin s.margins ≡ cells_of (order_at orders' k).margin s'.margins → got_at orders after k ≡ got_at orders' after' k
changed-elsewhere k orders orders' s s' {before} call other call' other' less less' order points faces margin =
    isolated k orders orders' s s' call other call' other' less less'
    (record {
      order = order;
      points = points;
      faces = faces;
      margin = margin;
      points_written = λ t. cells_of (order t).out_points before.buffers.points;
      faces_written = λ t. cells_of (order t).out_faces before.buffers.faces;
      room = λ t. too_short (input_at s orders before k) (input_alone s (order t) (lent_to (order t) before.buffers)).rooms;
    })
