-- What a call with many orders leaves (document 02, wish 5): each order what a call alone leaves, and nothing else. `CalledForOrders`, at the end, is what
-- the C function states.
use Rattle.std.specs.Prelude.{ℕ, zero, suc, ◌+◌, ◌*◌, ◌<◌, max, ◌≡◌, List, Bool, true, false, ◌&&◌, cond, ltb, leb, length, get_or, drop}
use Rattle.geometry.specs.Constants.{nought}
use Rattle.meaning.specs.Input.{Input, points_in, faces_in}
use Rattle.meaning.specs.Outcome.{outcome}
use Rattle.meaning.specs.Call.{Lent, lent, left_as}
use Rattle.walking.specs.declared.Engine.TheVariants.{Heap}
use Rattle.orders.specs.declared.Part.{Part}
use Rattle.orders.specs.declared.Order.{Order}
use Rattle.orders.specs.Parts.{cells_of}
use Rattle.orders.specs.Orders.{order_at}
use Rattle.serving.specs.Desks.{Sources, Desk, buffers_of, five_at, three_at, input_for}
use Rattle.orders.specs.Refused.{refused}
use Rattle.hjoltravan.specs.Calls.{Called}

-- the input of the order at a place: that of a call alone, with the order's parts as its buffers
abbrev pub input_at : Sources → List Order → Desk → ℕ → Input
input_at s orders before k = input_for s before.buffers (order_at orders k)

-- ---- work memory

-- the parts that document 01 states
abbrev pub stated_u32s : Input → ℕ
stated_u32s i = 16 * points_in i + 32 * faces_in i

abbrev pub stated_f32s : Input → ℕ
stated_f32s i = 4 * points_in i + 12 * faces_in i

abbrev pub stated_f64s : Input → ℕ
stated_f64s i = 16 * points_in i + 6 * faces_in i

-- the longest stated part that was worked in, of the first orders
unfoldable pub longest : (stated : Input → ℕ) (input : ℕ → Input) → ℕ → ℕ
longest stated input zero = 0
longest stated input (suc k) = max (longest stated input k) (cond (outcome (input k)).worked (stated (input k)) 0)

-- The buffers with the work memory as the first orders leave it, one after another: zero up to the longest stated part that was worked in, and the rest as
-- it came.
abbrev pub work_after : (input : ℕ → Input) → ℕ → Lent → Lent
work_after input k b =
    lent b.points b.faces
    (left_as true (longest stated_u32s input k) 0 b.u32s)
    (left_as true (longest stated_f32s input k) nought b.f32s)
    (left_as true (longest stated_f64s input k) nought b.f64s)

-- ---- each order, and all else

-- an order's parts of the outputs, beside a work memory
abbrev pub parts_with : Order → (outputs work : Lent) → Lent
parts_with o outputs work =
    lent (cells_of o.out_points outputs.points) (cells_of o.out_faces outputs.faces) work.u32s work.f32s work.f64s

-- what the order at a place is lent: its parts as they came, and the work memory as the orders before it left it
abbrev pub lent_at : Sources → List Order → Desk → ℕ → Lent
lent_at s orders before k = parts_with (order_at orders k) before.buffers (work_after (input_at s orders before) k before.buffers)

-- and what it leaves
abbrev pub left_at : Sources → List Order → (before after : Desk) → ℕ → Lent
left_at s orders before after k = parts_with (order_at orders k) after.buffers (work_after (input_at s orders before) (suc k) before.buffers)

-- the order at a place, by the statement of a call alone, with its answer at its place
abbrev pub DoneAlone : Sources → List Order → (before after : Desk) → ℕ → Type 0
DoneAlone s orders before after k =
    Called Heap (input_at s orders before k) (lent_at s orders before k) (left_at s orders before after k) (cells_of (five_at k) after.answers) (cells_of (three_at k) after.closed)

-- whether a part has a cell
abbrev pub has : Part → ℕ → Bool
has p c = leb p.from c && ltb c (p.from + p.len)

-- A list is as long as it was, and each cell that no order's part has is as it came. `past` stands for what is past the end.
pub record ElseSame {A : Type 0} (part_of : Order → Part) (orders : List Order) (old new : List A) : Type 0 where
  pub as_long : length new ≡ length old
  pub same : (past : A) (c : ℕ) → ((k : ℕ) → k < length orders → has (part_of (order_at orders k)) c ≡ false) → get_or new c past ≡ get_or old c past

-- a list is as long as it was, and as it came from a cell on
pub record RestSame {A : Type 0} (n : ℕ) (old new : List A) : Type 0 where
  pub as_long : length new ≡ length old
  pub same : drop n new ≡ drop n old

-- every order is done alone, and nothing else is written
pub record Served (s : Sources) (orders : List Order) (before after : Desk) : Type 0 where
  pub each : (k : ℕ) → k < length orders → DoneAlone s orders before after k
  pub points_else : ElseSame (λ o. o.out_points) orders before.buffers.points after.buffers.points
  pub faces_else : ElseSame (λ o. o.out_faces) orders before.buffers.faces after.buffers.faces
  pub u32s_left : after.buffers.u32s ≡ (work_after (input_at s orders before) (length orders) before.buffers).u32s
  pub f32s_left : after.buffers.f32s ≡ (work_after (input_at s orders before) (length orders) before.buffers).f32s
  pub f64s_left : after.buffers.f64s ≡ (work_after (input_at s orders before) (length orders) before.buffers).f64s
  pub answers_else : RestSame (5 * length orders) before.answers after.answers
  pub closed_else : RestSame (3 * length orders) before.closed after.closed

-- 41 for the whole call, and nothing is written; else 0, and every order is served
pub record CalledForOrders (orders : List Order) (s : Sources) (before after : Desk) (number : ℕ) : Type 0 where
  pub turned_away : refused orders (buffers_of s before) ≡ true → (number ≡ 41) × (after ≡ before)
  pub served : refused orders (buffers_of s before) ≡ false → (number ≡ 0) × Served s orders before after
