-- The statement of a call: its answer and every lent cell afterwards, for any input. `Thinned`, at the end, is what the public entry states.
use Rattle.std.specs.Prelude.{ℕ, ◌+◌, ◌*◌, ◌≡◌, List, ◌++◌, Bool, cond, length, take, drop, replicate, Float}
use Rattle.geometry.specs.Constants.{nought}
use Rattle.walk.specs.declared.Pair.{Pair}
use Rattle.lists.specs.Lists.{overlaid}
use Rattle.meaning.specs.declared.Answer.{Answer}
use Rattle.meaning.specs.declared.Options.{Options}
use Rattle.meaning.specs.Input.{Input, points_in, faces_in}
use Rattle.meaning.specs.Outcome.{Outcome, outcome, folds_of, pair_numbers}

-- ---- what a caller hands over

-- The cells of the buffers that a caller lends, at one moment: the two outputs, and the work memory of each type.
pub record Lent : Type 0 where
  pub points : List Float
  pub faces : List ℕ
  pub u32s : List ℕ
  pub f32s : List Float
  pub f64s : List Float

-- five buffers as one
abbrev pub lent : (points : List Float) (faces u32s : List ℕ) (f32s f64s : List Float) → Lent
lent points faces u32s f32s f64s = record { points = points; faces = faces; u32s = u32s; f32s = f32s; f64s = f64s }

-- the input of a call: of the lent buffers only their lengths count
abbrev pub input_of : (points : List Float) (faces margin : List ℕ) (options : Options) (b : Lent) → Input
input_of points faces margin options b =
    record {
      points = points;
      faces = faces;
      margin = margin;
      rooms = record { points = length b.points; faces = length b.faces; u32s = length b.u32s; f32s = length b.f32s; f64s = length b.f64s };
      options = options;
    }

-- ---- what it finds afterwards

-- the first n cells are zero and the rest is as it came, where the memory was worked in; else all is as it came
abbrev pub left_as : {A : Type 0} → Bool → ℕ → A → List A → List A
left_as worked n zero cells = cond worked (replicate n zero ++ drop n cells) cells

-- The outcome o for V points and F faces: outputs changed only in the part used; work memory untouched where it wasn't worked in, else its stated
-- part all zero; the rest never written.
pub record Leaves (v f : ℕ) (o : Outcome) (before after : Lent) (r : Answer) : Type 0 where
  pub answered : r ≡ o.answer
  pub points_written : after.points ≡ overlaid o.points before.points
  pub faces_written : after.faces ≡ overlaid o.faces before.faces
  pub u32s_left : after.u32s ≡ left_as o.worked (16 * v + 32 * f) 0 before.u32s
  pub f32s_left : after.f32s ≡ left_as o.worked (4 * v + 12 * f) nought before.f32s
  pub f64s_left : after.f64s ≡ left_as o.worked (16 * v + 6 * f) nought before.f64s

-- a call on the input i answers r and turns the lent buffers from before to after: the outcome of its input
abbrev pub Answered : (i : Input) (before after : Lent) (r : Answer) → Type 0
Answered i = Leaves (points_in i) (faces_in i) (outcome i)

-- folds in a lent list: keep and remove of each, as far as there is room, and the rest as it came
abbrev pub listed : List Pair → List ℕ → List ℕ
listed made folds = overlaid (take (length folds) (pair_numbers made)) folds

-- The whole statement: the call is answered, and the list folds, lent too, becomes folds', with the folds of the input.
pub record Thinned (i : Input) (before after : Lent) (folds folds' : List ℕ) (r : Answer) : Type 0 where
  pub answered : Answered i before after r
  pub folds_listed : folds' ≡ listed (folds_of i) folds
