-- The work memory at a moment of a walk.
use Rattle.std.specs.Prelude.{ℕ, List, Float}
use Rattle.walk.specs.declared.Pair.{Pair}
use Rattle.memory.specs.Entries.{with_fold}

-- its cells, the number of what it keeps open pairs in, and the number of live faces
pub record Moment : Type 0 where
  pub u32s : List ℕ
  pub f32s : List Float
  pub f64s : List Float
  pub pairs : ℕ
  pub live : ℕ

-- such a moment from its parts
abbrev pub moment : List ℕ → List Float → List Float → ℕ → ℕ → Moment
moment w p q n live = record { u32s = w; f32s = p; f64s = q; pairs = n; live = live }

-- with other u32 cells
abbrev pub with_cells : Moment → List ℕ → Moment
with_cells m w = moment w m.f32s m.f64s m.pairs m.live

-- with the fold x written down after n others
abbrev pub noted : ℕ → ℕ → ℕ → Pair → Moment → Moment
noted v f n x m = with_cells m (with_fold v f n x.keep x.remove m.u32s)
