-- What a call with many orders is given (document 02, wish 5), and of it what one order has: the input that a call alone would have, with the order's parts as
-- its buffers.
use Rattle.std.specs.Prelude.{ℕ, ◌*◌, List, length, Float}
use Rattle.meaning.specs.Input.{Input}
use Rattle.meaning.specs.Call.{Lent, lent, input_of}
use Rattle.thinning.specs.Told.{options_of}
use Rattle.orders.specs.declared.Part.{Part}
use Rattle.orders.specs.declared.Order.{Order}
use Rattle.orders.specs.declared.Buffers.{Buffers}
use Rattle.orders.specs.Parts.{part, cells_of}

-- ---- what a call is given

-- the shared inputs
pub record Sources : Type 0 where
  pub points : List Float
  pub faces : List ℕ
  pub margins : List ℕ

abbrev pub sources : (points : List Float) (faces margins : List ℕ) → Sources
sources points faces margins = record { points = points; faces = faces; margins = margins }

-- The cells of all that is lent to be written, at one moment: outputs and work memory, the answers, and the pairs closed.
pub record Desk : Type 0 where
  pub buffers : Lent
  pub answers : List ℕ
  pub closed : List ℕ

abbrev pub desk : (buffers : Lent) (answers closed : List ℕ) → Desk
desk buffers answers closed = record { buffers = buffers; answers = answers; closed = closed }

-- how many cells the buffers of a call have
abbrev pub buffers_of : Sources → Desk → Buffers
buffers_of s d =
    record {
      points = length s.points;
      faces = length s.faces;
      margins = length s.margins;
      out_points = length d.buffers.points;
      out_faces = length d.buffers.faces;
      answers = length d.answers;
      closed = length d.closed;
    }

-- ---- what an order has

-- where the order at a place has its answer: five numbers, and three of pairs closed
abbrev pub five_at : ℕ → Part
five_at place = part (5 * place) 5

abbrev pub three_at : ℕ → Part
three_at place = part (3 * place) 3

-- what is lent to an order: its parts of the outputs, and the work memory
abbrev pub lent_to : Order → Lent → Lent
lent_to o b = lent (cells_of o.out_points b.points) (cells_of o.out_faces b.faces) b.u32s b.f32s b.f64s

-- the input of a call alone that has the order's parts of the inputs, and buffers of any lengths
abbrev pub input_alone : Sources → Order → Lent → Input
input_alone s o b =
    input_of (cells_of o.points s.points) (cells_of o.faces s.faces) (cells_of o.margin s.margins)
    (options_of o.unit o.ratio o.preserve o.limited o.limit) b

-- and with its parts of the outputs
abbrev pub input_for : Sources → Lent → Order → Input
input_for s b o = input_alone s o (lent_to o b)
