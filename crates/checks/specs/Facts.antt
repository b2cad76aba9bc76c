-- What is known of an input once its verdict is known. proofs/VerdictLaws.antt and RefusalLaws.antt show it from the verdict.
use Rattle.std.specs.Prelude.{ℕ, ◌+◌, ◌*◌, ◌^◌, ◌≤◌, ◌<◌, ◌≡◌, ◌⊎◌, List, Bool, true, false, not, cond, T, length, get_or}
use Rattle.std.specs.Float.{nan}
use Rattle.std.specs.Float.Ieee.{le, eq}
use Rattle.units.specs.Units.{known_unit}
use Rattle.walk.specs.declared.Face.{Face}
use Rattle.lists.specs.Lists.{every, FirstAt}
use Rattle.walk.specs.Faces.{proper, faces_of}
use Rattle.meaning.specs.Input.{Input, points_in, faces_in, bound_in}
use Rattle.bits.specs.Cut.{zero_float, one_float}
use Rattle.meaning.specs.Answers.{bad_limit, bad_coordinate, bad_entry, outside}

-- none of 1 to 7 and 24 holds
pub record Sized (i : Input) : Type 0 where
  -- 1: three numbers to a point and to a face
  pub points_by_three : length i.points ≡ 3 * points_in i
  pub faces_by_three : length i.faces ≡ 3 * faces_in i
  -- 2: V and F are within their limits
  pub points_most : points_in i ≤ 65536
  pub faces_most : faces_in i ≤ 131072
  -- 3: each lent buffer is long enough
  pub room_points : 3 * points_in i ≤ i.rooms.points
  pub room_faces : 3 * faces_in i ≤ i.rooms.faces
  pub room_u32s : 16 * points_in i + 32 * faces_in i ≤ i.rooms.u32s
  pub room_f32s : 4 * points_in i + 12 * faces_in i ≤ i.rooms.f32s
  pub room_f64s : 16 * points_in i + 6 * faces_in i ≤ i.rooms.f64s
  -- 4: there are points and faces
  pub points_some : 0 < points_in i
  pub faces_some : 0 < faces_in i
  -- 5: the ratio is between 0 and 1
  pub ratio_least : T (le zero_float i.options.ratio)
  pub ratio_most : T (le i.options.ratio one_float)
  -- 6: the limit is no NaN
  pub limit_good : bad_limit i.options.limit ≡ false
  -- 24: the unit is millimetre or micrometre
  pub unit_known : known_unit i.options.unit ≡ true
  -- 7: every coordinate is finite, and its size is within its unit's bound
  pub coordinates_good : (k : ℕ) → k < length i.points → bad_coordinate (bound_in i) (get_or i.points k nan) ≡ false

-- none of 1 to 7 and 24 holds, and the ratio is 0.0 or -0.0
pub record Copiable (i : Input) : Type 0 where
  pub sized : Sized i
  pub ratio_zero : eq i.options.ratio zero_float ≡ true

-- none of 1 to 9, 12 and 24 holds, and the ratio is not zero: so every face has three distinct points below V, and no entry of the margin is bad
pub record Admissible (i : Input) : Type 0 where
  pub sized : Sized i
  pub ratio_above : eq i.options.ratio zero_float ≡ false
  pub faces_proper : every (proper (points_in i)) (faces_of (faces_in i) i.faces) ≡ true
  pub margin_good : (k : ℕ) → k < length i.margin → bad_entry (points_in i) i.margin k ≡ false

-- ---- the place of a refusal

-- a face that 8 or 9 holds of
abbrev pub improper : ℕ → Face → Bool
improper v f = not (proper v f)

-- what stands past the end of a list of faces
abbrev pub no_face : Face
no_face = record { a = 0; b = 0; c = 0 }

-- 8 and 9: face p is the lowest that is not proper, and n is 8 where it names a point not below v, else 9
pub record LowestBad (v : ℕ) (faces : List Face) (n p : ℕ) : Type 0 where
  pub lowest : FirstAt (improper v) no_face faces p
  pub number : n ≡ cond (outside v (get_or faces p no_face)) 8 9

-- a number from 1 to 9, or 12 or 24, and a place that fits u32
pub record RefusalFits (n p : ℕ) : Type 0 where
  pub number_least : 1 ≤ n
  pub number_known : (n ≤ 9) ⊎ (n ≡ 12) ⊎ (n ≡ 24)
  pub place_fits : p < 2 ^ 32
