-- What the checks say of an input, as the stages ask it of the lists.
-- Assumes nothing.
use Prim.Native.Nat.{ℕ, ◌/◌}
use mathlib.Core.List.{List}
use lib.Ieee.{Float}
use lib.ListN.{length}
use Rattle.meaning.specs.declared.Options.{Options}
use Rattle.meaning.specs.Call.{Lent, input_of}
use Rattle.meaning.proofs.MarginVerdictLaws.{all_named}
use Rattle.checks.specs.Facts.{Sized, Admissible}
use Rattle.walking.specs.Clauses.{Working, Layable}
use Rattle.thinning.specs.Clauses.{Measured}

module _ (points : List Float) (faces margin : List ℕ) (options : Options) (before : Lent) where
  working : Sized (input_of points faces margin options before) → Working (length points / 3) (length faces / 3) before.u32s before.f32s before.f64s
  working sized = record {
    u32s = record { points_few = sized.points_most; faces_few = sized.faces_most; long = sized.room_u32s };
    f32s = sized.room_f32s;
    f64s = sized.room_f64s;
  }

  -- what a copy asks
  pub measured : Sized (input_of points faces margin options before) → Measured (length points / 3) (length faces / 3) points faces before
  measured sized = record {
    points_by_three = sized.points_by_three;
    faces_by_three = sized.faces_by_three;
    points_fit = sized.room_points;
    faces_fit = sized.room_faces;
    working = working sized;
  }

  -- what laying out asks
  pub ready : Admissible (input_of points faces margin options before) →
      Layable (length points / 3) (length faces / 3) points faces margin before.u32s before.f32s before.f64s
  ready fine = record {
    points_by_three = fine.sized.points_by_three;
    faces_by_three = fine.sized.faces_by_three;
    faces_proper = fine.faces_proper;
    margin_named = all_named (length points / 3) margin fine.margin_good;
    working = working fine.sized;
  }
