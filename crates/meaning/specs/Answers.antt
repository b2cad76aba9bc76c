-- The answer numbers 1 to 9 of document 01 and 12 and 24 of document 02, in the order they are checked, each "given exactly when".
use Rattle.std.specs.Prelude.{ℕ, suc, ◌+◌, ◌-◌, ◌*◌, ◌/◌, ◌%◌, List, [], ◌∷◌, Bool, false, not, ◌&&◌, ◌||◌, cond, ltb, leb, eqb, length, get_or, Float, ⊤, Result, Ok, Err, Option, Some, None}
use Rattle.std.specs.Float.Ieee.{is_nan, le, eq, neg}
use Rattle.std.specs.Float.Ieee.Scale.{finite}
use Rattle.units.specs.Units.{known_unit}
use Rattle.bits.specs.Cut.{zero_float, one_float}
use Rattle.walk.specs.declared.Face.{Face}
use Rattle.lists.specs.Lists.{some, first_of, below}
use Rattle.walk.specs.Faces.{faces_of}
use Rattle.meaning.specs.declared.Rooms.{Rooms}
use Rattle.meaning.specs.declared.Refusal.{Refusal}
use Rattle.meaning.specs.declared.Refusal.TheVariants.{UnevenList, TooLarge, ShortBuffer, EmptyMesh, BadRatio, BadLimit, BadCoordinate, PointOutside, PointTwice, BadMargin, UnknownUnit}
use Rattle.meaning.specs.declared.Task.{Task}
use Rattle.meaning.specs.declared.Task.TheVariants.{Copied, Admitted}
use Rattle.meaning.specs.Input.{Input, points_in, faces_in, bound_in}

-- ---- the numbers, of the lists' lengths, of V and F, or of what stands in the lists

-- 1: a list's length is no multiple of 3
abbrev pub uneven : ℕ → ℕ → Bool
uneven points faces = not (eqb (points % 3) 0) || not (eqb (faces % 3) 0)

-- 2: too many points or faces
abbrev pub large : ℕ → ℕ → Bool
large v f = ltb 65536 v || ltb 131072 f

-- 3: an output or work buffer shorter than stated
abbrev pub short : ℕ → ℕ → Rooms → Bool
short v f rooms =
    ltb rooms.points (3 * v)
    || ltb rooms.faces (3 * f)
    || ltb rooms.u32s (16 * v + 32 * f)
    || ltb rooms.f32s (4 * v + 12 * f)
    || ltb rooms.f64s (16 * v + 6 * f)

-- 4: no points or no faces
abbrev pub empty : ℕ → ℕ → Bool
empty v f = eqb v 0 || eqb f 0

-- 5: the ratio is NaN, below 0 or above 1
abbrev pub bad_ratio : Float → Bool
bad_ratio ratio = not (le zero_float ratio && le ratio one_float)

-- 6: the length limit is NaN
abbrev pub bad_limit : Option Float → Bool
bad_limit None = false
bad_limit (Some most) = is_nan most

-- 24: the unit is neither millimetre nor micrometre
abbrev pub bad_unit : ℕ → Bool
bad_unit unit = not (known_unit unit)

-- 7: a coordinate is not finite, or its size is above the bound, which is its unit's
abbrev pub bad_coordinate : Float → Float → Bool
bad_coordinate bound x = not (finite x && le x bound && le (neg bound) x)

-- 8: a face names a point not below v
abbrev pub outside : ℕ → Face → Bool
outside v f = not (ltb f.a v && ltb f.b v && ltb f.c v)

-- 9: a face names one point twice
abbrev pub doubled : Face → Bool
doubled f = eqb f.a f.b || eqb f.b f.c || eqb f.c f.a

-- 12: the margin's entry k is not below v, or not above the entry before it
abbrev pub bad_entry : ℕ → List ℕ → ℕ → Bool
bad_entry v margin k = not (ltb (get_or margin k 0) v) || (ltb 0 k && leb (get_or margin k 0) (get_or margin (k - 1) 0))

-- ---- what a refusal is answered by

-- the number
abbrev pub number_of : Refusal → ℕ
number_of UnevenList = 1
number_of TooLarge = 2
number_of ShortBuffer = 3
number_of EmptyMesh = 4
number_of BadRatio = 5
number_of BadLimit = 6
number_of (BadCoordinate place) = 7
number_of (PointOutside place) = 8
number_of (PointTwice place) = 9
number_of (BadMargin place) = 12
number_of UnknownUnit = 24

-- and the place: 7 names a coordinate, 8 and 9 a face, and 12 an entry of the margin
abbrev pub place_of : Refusal → ℕ
place_of UnevenList = 0
place_of TooLarge = 0
place_of ShortBuffer = 0
place_of EmptyMesh = 0
place_of BadRatio = 0
place_of BadLimit = 0
place_of (BadCoordinate place) = place
place_of (PointOutside place) = place
place_of (PointTwice place) = place
place_of (BadMargin place) = place
place_of UnknownUnit = 0

-- ---- the order

-- what the checks say of an input
abbrev pub Verdict : Type 0
Verdict = Result Task Refusal

-- a check, and where it passes the next one
abbrev pub and_then : {T : Type 0} → Result ⊤ Refusal → Result T Refusal → Result T Refusal
and_then (Err refusal) next = Err refusal
and_then (Ok done) next = next

-- 8 and 9: the lowest bad face counts, and within it 8 comes first. k is the number of the first face of the list.
unfoldable pub face_verdict : ℕ → ℕ → List Face → Result ⊤ Refusal
face_verdict v k [] = Ok tt
face_verdict v k (f ∷ fs) = cond (outside v f) (Err (PointOutside k)) (cond (doubled f) (Err (PointTwice k)) (face_verdict v (suc k) fs))

-- 12: the margin's first bad entry counts
unfoldable pub margin_verdict : ℕ → List ℕ → Result ⊤ Refusal
unfolding some first_of below
margin_verdict v margin =
    cond (some (bad_entry v margin) (below (length margin))) (Err (BadMargin (first_of (bad_entry v margin) (below (length margin))))) (Ok tt)

-- 7 to 9 and 12, of the lists, the ratio and the bound: ratio 0.0 or -0.0 is answered after 7 and before 8, faces and margin unchecked
unfoldable pub contents_verdict : List Float → (faces margin : List ℕ) → Float → Float → Verdict
unfolding face_verdict margin_verdict some first_of
contents_verdict points faces margin ratio bound =
    cond (some (bad_coordinate bound) points) (Err (BadCoordinate (first_of (bad_coordinate bound) points)))
    (cond (eq ratio zero_float) (Ok Copied)
    (and_then (face_verdict (length points / 3) 0 (faces_of (length faces / 3) faces))
    (and_then (margin_verdict (length points / 3) margin)
    (Ok Admitted))))

-- 1 to 9, 12 and 24, which stands between 6 and 7
unfoldable pub verdict_of : Input → Verdict
unfolding contents_verdict
verdict_of i =
    cond (uneven (length i.points) (length i.faces)) (Err UnevenList)
    (cond (large (points_in i) (faces_in i)) (Err TooLarge)
    (cond (short (points_in i) (faces_in i) i.rooms) (Err ShortBuffer)
    (cond (empty (points_in i) (faces_in i)) (Err EmptyMesh)
    (cond (bad_ratio i.options.ratio) (Err BadRatio)
    (cond (bad_limit i.options.limit) (Err BadLimit)
    (cond (bad_unit i.options.unit) (Err UnknownUnit)
    (contents_verdict i.points i.faces i.margin i.options.ratio (bound_in i))))))))
