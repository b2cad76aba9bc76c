-- 41: the calls that are refused as a whole (document 02, wish 5). `refused` is what the code is held to; `Faulty` has document 02's words, and
-- `refused-exactly-when` (proofs/FaultLaws.antt) ties the two. A reader may believe either.
use Rattle.std.specs.Prelude.{ℕ, ◌+◌, ◌*◌, ◌<◌, ◌≢◌, ◌⊎◌, List, Bool, ◌&&◌, ◌||◌, ltb, length}
use Rattle.lists.specs.Lists.{some, below}
use Rattle.orders.specs.declared.Part.{Part}
use Rattle.orders.specs.declared.Order.{Order}
use Rattle.orders.specs.declared.Buffers.{Buffers}
use Rattle.orders.specs.Parts.{In}
use Rattle.orders.specs.Orders.{order_at}

-- over 64 orders, or a list of answers shorter than the orders: five numbers an order, and three of pairs closed
abbrev pub is_too_many : ℕ → Buffers → Bool
is_too_many orders cells = ltb 64 orders || ltb cells.answers (5 * orders) || ltb cells.closed (3 * orders)

-- a part lies outside a buffer of so many cells: it ends after the buffer
abbrev pub outside : Part → ℕ → Bool
outside p cells = ltb cells (p.from + p.len)

-- one of an order's parts does
abbrev pub misplaced : Buffers → Order → Bool
misplaced cells o =
    outside o.points cells.points
    || outside o.faces cells.faces
    || outside o.margin cells.margins
    || outside o.out_points cells.out_points
    || outside o.out_faces cells.out_faces

-- two parts share a cell: neither is empty, and each begins before the other ends
abbrev pub share : Part → Part → Bool
share a b = ltb 0 a.len && ltb 0 b.len && ltb a.from (b.from + b.len) && ltb b.from (a.from + a.len)

-- two orders' output parts do: points with points, faces with faces
abbrev pub clash : Order → Order → Bool
clash a b = share a.out_points b.out_points || share a.out_faces b.out_faces

-- the order at a place has an output cell in common with one before it
abbrev pub clashes : List Order → ℕ → Bool
clashes orders place = some (λ j. clash (order_at orders j) (order_at orders place)) (below place)

-- either of the two
abbrev pub bad_order : List Order → Buffers → ℕ → Bool
bad_order orders cells place = misplaced cells (order_at orders place) || clashes orders place

-- the whole call
unfoldable pub refused : List Order → Buffers → Bool
unfolding some below
refused orders cells = is_too_many (length orders) cells || some (bad_order orders cells) (below (length orders))

-- ---- in document 02's words

-- a part lies outside its buffer
abbrev pub PartOutside : Buffers → Order → Type 0
PartOutside cells o =
    (cells.points < o.points.from + o.points.len)
    ⊎ (cells.faces < o.faces.from + o.faces.len)
    ⊎ (cells.margins < o.margin.from + o.margin.len)
    ⊎ (cells.out_points < o.out_points.from + o.out_points.len)
    ⊎ (cells.out_faces < o.out_faces.from + o.out_faces.len)

-- a cell is in the output parts of two orders: points with points, or faces with faces
abbrev pub Shared : Order → Order → ℕ → Type 0
Shared a b c = (In a.out_points c × In b.out_points c) ⊎ (In a.out_faces c × In b.out_faces c)

-- "41 for the whole call if over 64 orders, the answer list is shorter than the orders, a part lies outside its buffer or two output parts share a cell"
pub data Faulty (orders : List Order) (cells : Buffers) : Type 0 where
  over-64 : 64 < length orders → Faulty orders cells
  answers-short : cells.answers < 5 * length orders → Faulty orders cells
  closed-short : cells.closed < 3 * length orders → Faulty orders cells
  part-outside : {k : ℕ} → k < length orders → PartOutside cells (order_at orders k) → Faulty orders cells
  cell_shared : {j k c : ℕ} → j < length orders → k < length orders → j ≢ k → Shared (order_at orders j) (order_at orders k) c → Faulty orders cells
