-- What the call for one order asks and leaves, and one order after another.
use Rattle.std.specs.Prelude.{ℕ, suc, ◌≡◌, List, length}
use Rattle.meaning.specs.declared.Answer.{Answer}
use Rattle.meaning.specs.Call.{Lent}
use Rattle.walking.specs.declared.Engine.TheVariants.{Heap}
use Rattle.thinning.specs.Made.{ThinnedBy}
use Rattle.thinning.specs.Told.{five_of, by_reason}
use Rattle.orders.specs.declared.Order.{Order}
use Rattle.orders.specs.Parts.{Within, replaced}
use Rattle.orders.specs.Orders.{order_at}
use Rattle.serving.specs.Desks.{Sources, Desk, five_at, three_at, lent_to, input_alone}

-- every part of an order lies in its buffer, and there is room for its answer at a place
pub record Fits (s : Sources) (o : Order) (place : ℕ) (d : Desk) : Type 0 where
  pub points : Within o.points s.points
  pub faces : Within o.faces s.faces
  pub margin : Within o.margin s.margins
  pub points_written : Within o.out_points d.buffers.points
  pub faces_written : Within o.out_faces d.buffers.faces
  pub answer : Within (five_at place) d.answers
  pub closed : Within (three_at place) d.closed

-- every buffer is as long as another
pub record AsLong (a b : Lent) : Type 0 where
  pub points : length a.points ≡ length b.points
  pub faces : length a.faces ≡ length b.faces
  pub u32s : length a.u32s ≡ length b.u32s
  pub f32s : length a.f32s ≡ length b.f32s
  pub f64s : length a.f64s ≡ length b.f64s

-- the call alone was made, with the heap walk, on the order's parts of the inputs and over some buffers
pub record ThinnedInto (s : Sources) (o : Order) (b left : Lent) (r : Answer) : Type 0 where
  pub folds : List ℕ
  pub folds' : List ℕ
  pub thinned : ThinnedBy Heap (input_alone s o b) b left folds folds' r

-- The call alone was made over the order's parts of the outputs, and what it left stands in their place; its answer stands at the order's place; all else of
-- the outputs and the lists is as it came.
pub record OrderDone (s : Sources) (o : Order) (place : ℕ) (d d' : Desk) : Type 0 where
  pub answer : Answer
  pub left : Lent
  pub alone : ThinnedInto s o (lent_to o d.buffers) left answer
  pub as_long : AsLong left (lent_to o d.buffers)
  pub points_written : d'.buffers.points ≡ replaced o.out_points left.points d.buffers.points
  pub faces_written : d'.buffers.faces ≡ replaced o.out_faces left.faces d.buffers.faces
  pub u32s_left : d'.buffers.u32s ≡ left.u32s
  pub f32s_left : d'.buffers.f32s ≡ left.f32s
  pub f64s_left : d'.buffers.f64s ≡ left.f64s
  pub told : d'.answers ≡ replaced (five_at place) (five_of answer) d.answers
  pub told_closed : d'.closed ≡ replaced (three_at place) (by_reason answer) d.closed

-- the first orders, one after another
pub data OrdersDone (s : Sources) (orders : List Order) (before : Desk) : ℕ → Desk → Type 0 where
  none_yet : OrdersDone s orders before 0 before
  one_more : {k : ℕ} {d d' : Desk} → OrdersDone s orders before k d → OrderDone s (order_at orders k) k d d' → OrdersDone s orders before (suc k) d'
