-- Document 01's table of answers with document 02's changes, row by row and in its words. `Given i n p` says that the table gives the input i the number n
-- with the place p.
-- It names neither `verdict_of` nor `outcome`, which the code is held to; proofs/ExactlyWhen.antt shows that they agree with it.
use Rattle.std.specs.Prelude.{ℕ, suc, ◌+◌, ◌*◌, ◌%◌, ◌≤◌, ◌<◌, ◌≡◌, ◌≢◌, ◌⊎◌, List, [], true, false, length, get_or, Float, Some}
use Rattle.std.specs.Float.{nan}
use Rattle.std.specs.Float.Ieee.{is_nan, lt, eq, neg}
use Rattle.std.specs.Float.Ieee.Scale.{finite}
use Rattle.bits.specs.Cut.{zero_float, one_float}
use Rattle.walk.specs.declared.Pair.{Pair}
use Rattle.lists.specs.Lists.{count, below}
use Rattle.walk.specs.Faces.{face_at}
use Rattle.walk.specs.Walk.{ended}
use Rattle.meaning.specs.Input.{Input, points_in, faces_in, bound_in}
use Rattle.meaning.specs.Outcome.{target_of}
use Rattle.promises.specs.Steps.{answer_at, folds_to, fixed_point}

-- ---- "Given exactly when"

-- 1: point or face list length is no multiple of 3
abbrev pub Uneven : Input → Type 0
Uneven i = (length i.points % 3 ≢ 0) ⊎ (length i.faces % 3 ≢ 0)

-- 2: V or F above its limit
abbrev pub Large : Input → Type 0
Large i = (65536 < points_in i) ⊎ (131072 < faces_in i)

-- 3: an output or work buffer shorter than stated
abbrev pub Short : Input → Type 0
Short i =
    let v = points_in i in
    let f = faces_in i in
    (i.rooms.points < 3 * v)
    ⊎ (i.rooms.faces < 3 * f)
    ⊎ (i.rooms.u32s < 16 * v + 32 * f)
    ⊎ (i.rooms.f32s < 4 * v + 12 * f)
    ⊎ (i.rooms.f64s < 16 * v + 6 * f)

-- 4: V = 0 or F = 0
abbrev pub Empty : Input → Type 0
Empty i = (points_in i ≡ 0) ⊎ (faces_in i ≡ 0)

-- 5: ratio is NaN, below 0 or above 1
abbrev pub BadRatio : Input → Type 0
BadRatio i = let r = i.options.ratio in (is_nan r ≡ true) ⊎ (lt r zero_float ≡ true) ⊎ (lt one_float r ≡ true)

-- 6: length limit is NaN
abbrev pub BadLimit : Input → Type 0
BadLimit i = (most : Float) × (i.options.limit ≡ Some most) × (is_nan most ≡ true)

-- 24: the unit is neither 1, millimetre, nor 2, micrometre
abbrev pub BadUnit : Input → Type 0
BadUnit i = (i.options.unit ≢ 1) × (i.options.unit ≢ 2)

-- 7, of coordinate k: it is not finite, or its size is above its unit's bound
abbrev pub BadCoordinate : Input → ℕ → Type 0
BadCoordinate i k =
    let x = get_or i.points k nan in
    (finite x ≡ false) ⊎ (lt (bound_in i) x ≡ true) ⊎ (lt x (neg (bound_in i)) ≡ true)

-- 8, of face k: it names a point not below V
abbrev pub Outside : Input → ℕ → Type 0
Outside i k = let f = face_at i.faces k in (points_in i ≤ f.a) ⊎ (points_in i ≤ f.b) ⊎ (points_in i ≤ f.c)

-- 9, of face k: it names one point twice
abbrev pub Doubled : Input → ℕ → Type 0
Doubled i k = let f = face_at i.faces k in (f.a ≡ f.b) ⊎ (f.b ≡ f.c) ⊎ (f.c ≡ f.a)

-- 8 or 9
abbrev pub BadFace : Input → ℕ → Type 0
BadFace i k = Outside i k ⊎ Doubled i k

-- 12, of entry k of the margin: it is not below V, or not above the entry before it
abbrev pub BadEntry : Input → ℕ → Type 0
BadEntry i k = let x = get_or i.margin k 0 in (points_in i ≤ x) ⊎ ((j : ℕ) × (suc j ≡ k) × (x ≤ get_or i.margin j 0))

-- the ratio is 0.0 or -0.0
abbrev pub RatioZero : Input → Type 0
RatioZero i = eq i.options.ratio zero_float ≡ true

-- 10, 11: the walk ends, after some number of steps, with these folds made
abbrev pub WalkEnds : Input → List Pair → Type 0
WalkEnds i folds = (n : ℕ) × (answer_at i n ≡ ended) × (folds_to i n ≡ folds)

-- the number of fixed points, used by a face or not
abbrev pub fixed_points : Input → ℕ
fixed_points i = count (fixed_point i) (below (points_in i))

-- ---- "in the order they are checked"

-- k is the first number below n of which P holds, and none is
pub record First (P : ℕ → Type 0) (n k : ℕ) : Type 0 where
  pub within : k < n
  pub here : P k
  pub none_before : (j : ℕ) → j < k → ¬ P j

abbrev pub None : (ℕ → Type 0) → ℕ → Type 0
None P n = (k : ℕ) → k < n → ¬ P k

-- not refused by 1, by 1 and 2, and so on
abbrev pub Past1 : Input → Type 0
Past1 i = ¬ Uneven i

abbrev pub Past2 : Input → Type 0
Past2 i = Past1 i × (¬ Large i)

abbrev pub Past3 : Input → Type 0
Past3 i = Past2 i × (¬ Short i)

abbrev pub Past4 : Input → Type 0
Past4 i = Past3 i × (¬ Empty i)

abbrev pub Past5 : Input → Type 0
Past5 i = Past4 i × (¬ BadRatio i)

abbrev pub Past6 : Input → Type 0
Past6 i = Past5 i × (¬ BadLimit i)

-- 24 stands between 6 and 7
abbrev pub Past24 : Input → Type 0
Past24 i = Past6 i × (¬ BadUnit i)

abbrev pub Past7 : Input → Type 0
Past7 i = Past24 i × None (BadCoordinate i) (length i.points)

-- "Ratio 0.0 or -0.0 is answered after 7 and before 8"
abbrev pub PastZero : Input → Type 0
PastZero i = Past7 i × (¬ RatioZero i)

abbrev pub Past9 : Input → Type 0
Past9 i = PastZero i × None (BadFace i) (faces_in i)

abbrev pub Past12 : Input → Type 0
Past12 i = Past9 i × None (BadEntry i) (length i.margin)

-- ---- the table: the number, and the place

pub data Given (i : Input) : ℕ → ℕ → Type 0 where
  row-1 : Uneven i → Given i 1 0
  row-2 : Past1 i → Large i → Given i 2 0
  row-3 : Past2 i → Short i → Given i 3 0
  row-4 : Past3 i → Empty i → Given i 4 0
  row-5 : Past4 i → BadRatio i → Given i 5 0
  row-6 : Past5 i → BadLimit i → Given i 6 0
  row-24 : Past6 i → BadUnit i → Given i 24 0
  -- the place is the first such coordinate's number
  row-7 : {k : ℕ} → Past24 i → First (BadCoordinate i) (length i.points) k → Given i 7 k
  -- the mesh is copied
  row_zero : Past7 i → RatioZero i → Given i 0 0
  -- the lowest bad face counts; within it 8 comes first
  row-8 : {k : ℕ} → PastZero i → First (BadFace i) (faces_in i) k → Outside i k → Given i 8 k
  row-9 : {k : ℕ} → PastZero i → First (BadFace i) (faces_in i) k → ¬ Outside i k → Doubled i k → Given i 9 k
  -- the first bad entry counts
  row-12 : {k : ℕ} → Past9 i → First (BadEntry i) (length i.margin) k → Given i 12 k
  -- the walk ended with no fold made, F above target, at least one fixed point; the place is their number
  row-10 : Past12 i → WalkEnds i [] → target_of i < faces_in i → 1 ≤ fixed_points i → Given i 10 (fixed_points i)
  -- the walk ended with no fold made, F above target, and no fixed point
  row-11 : Past12 i → WalkEnds i [] → target_of i < faces_in i → fixed_points i ≡ 0 → Given i 11 0
  -- otherwise
  row-0 : {folds : List Pair} → Past12 i → WalkEnds i folds → (folds ≢ []) ⊎ (faces_in i ≤ target_of i) → Given i 0 0
