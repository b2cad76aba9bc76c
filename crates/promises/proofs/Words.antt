-- The tests that the verdict is made of say the words of the table.
-- Assumes nothing.
use Prim.Native.Nat.{ℕ, zero, suc, ◌+◌, ◌-◌, ◌*◌, ◌%◌, ◌≤◌}
use native.Mathlib.Omega.{arith}
use mathlib.Core.Path.{◌≡◌, refl, sym, ap, ◌∙◌}
use mathlib.Core.List.{List}
use mathlib.Core.Bool.{Bool, true, false, not, ◌&&◌, ◌||◌, or_assoc, false≢true}
use borrow.Author.Tests.{lt-ltb}
use lib.Dec.{ltb, leb, eqb}
use lib.ListN.{length, get_or}
use lib.Ieee.{Float, nan, inf, fin, is_nan, lt, le, eq, neg, of_bits}
use lib.Ieee.Scale.{finite}
use Rattle.std.specs.Prelude.{Option, Some, None}
use Rattle.bits.specs.Cut.{zero_float, one_float}
use Rattle.bits.proofs.FloatOrder.{le_total}
use Rattle.units.specs.declared.Unit.{Unit}
use Rattle.units.specs.declared.Unit.TheVariants.{Millimetre, Micrometre}
use Rattle.units.specs.Units.{unit_bound, unit_of}
use Rattle.walk.specs.Faces.{face_at}
use Rattle.meaning.specs.Input.{Input, points_in, faces_in, bound_in}
use Rattle.meaning.specs.Answers.{uneven, large, short, empty, bad_ratio, bad_limit, bad_unit, bad_coordinate, outside, doubled, bad_entry}
use Rattle.promises.specs.Table.{Uneven, Large, Short, Empty, BadRatio, BadLimit, BadUnit, BadCoordinate, Outside, Doubled, BadFace, BadEntry, RatioZero}
use Rattle.promises.proofs.Says.{Says, says_same, says-itself, says-not, says-below, says-least, says-most, says-equal, says-differ, says-or, says-not-both, says-neither}

-- ---- 1 to 4

-- 1: point or face list length is no multiple of 3
pub says-uneven : (i : Input) → Says (Uneven i) (uneven (length i.points) (length i.faces))
says-uneven i = says-or (says-differ (length i.points % 3) 0) (says-differ (length i.faces % 3) 0)

-- 2: V or F above its limit
pub says-large : (i : Input) → Says (Large i) (large (points_in i) (faces_in i))
says-large i = says-or (says-below 65536 (points_in i)) (says-below 131072 (faces_in i))

-- five tests joined, from the left or from the right
five : (a b c d e : Bool) → (a || b || c || d || e) ≡ (a || (b || (c || (d || e))))
five true b c d e = refl
five false true c d e = refl
five false false true d e = refl
five false false false d e = refl

-- 3: an output or work buffer shorter than stated
pub says-short : (i : Input) → Says (Short i) (short (points_in i) (faces_in i) i.rooms)
says-short i =
    let v = points_in i in
    let f = faces_in i in
    says_same
    (says-or (says-below i.rooms.points (3 * v))
    (says-or (says-below i.rooms.faces (3 * f))
    (says-or (says-below i.rooms.u32s (16 * v + 32 * f))
    (says-or (says-below i.rooms.f32s (4 * v + 12 * f))
    (says-below i.rooms.f64s (16 * v + 6 * f))))))
    (five (ltb i.rooms.points (3 * v)) (ltb i.rooms.faces (3 * f)) (ltb i.rooms.u32s (16 * v + 32 * f))
    (ltb i.rooms.f32s (4 * v + 12 * f)) (ltb i.rooms.f64s (16 * v + 6 * f)))

-- 4: V = 0 or F = 0
pub says-empty : (i : Input) → Says (Empty i) (empty (points_in i) (faces_in i))
says-empty i = says-or (says-equal (points_in i) 0) (says-equal (faces_in i) 0)

-- ---- 5, 6, 24 and 7

-- not at most and not at least is above or below
outside-or : (a b : Bool) → not (not a && not b) ≡ (a || b)
outside-or true b = refl
outside-or false true = refl
outside-or false false = refl

-- 5: ratio is NaN, below 0 or above 1
ratio-is : (r : Float) → bad_ratio r ≡ (is_nan r || (lt r zero_float || lt one_float r))
unfolding is_nan le lt eq
ratio-is nan = refl
ratio-is (inf true) = refl
ratio-is (inf false) = refl
ratio-is (fin s m e) =
    rw (le_total zero_float (fin s m e) refl refl, le_total (fin s m e) one_float refl refl)
    (outside-or (lt (fin s m e) zero_float) (lt one_float (fin s m e)))

pub says-ratio : (i : Input) → Says (BadRatio i) (bad_ratio i.options.ratio)
says-ratio i =
    let r = i.options.ratio in
    says_same (says-or (says-itself (is_nan r)) (says-or (says-itself (lt r zero_float)) (says-itself (lt one_float r)))) (ratio-is r)

-- 6: length limit is NaN
says-limit-is : (limit : Option Float) → Says ((most : Float) × (limit ≡ Some most) × (is_nan most ≡ true)) (bad_limit limit)
says-limit-is None = record { holds = λ t. absurd (false≢true t); passes = λ p. let (most, e, n) = p in absurd (false≢true (ap is_limited e)) }
  where
    is_limited : Option Float → Bool
    is_limited None = false
    is_limited (Some most) = true
says-limit-is (Some most) = record { holds = λ t. (most, refl, t); passes = λ p. let (other, e, n) = p in ap bad_limit e ∙ n }

pub says-limit : (i : Input) → Says (BadLimit i) (bad_limit i.options.limit)
says-limit i = says-limit-is i.options.limit

-- 24: the unit is neither 1 nor 2
pub says-unit : (i : Input) → Says (BadUnit i) (bad_unit i.options.unit)
says-unit i = let u = i.options.unit in says-neither (eqb u 1) (eqb u 2) (says-differ u 1) (says-differ u 2)

-- 7: a coordinate is not finite, or its size is above its unit's bound
coordinate-is : (bound x : Float) → is_nan bound ≡ false → bad_coordinate bound x ≡ (not (finite x) || (lt bound x || lt x (neg bound)))
unfolding is_nan neg
coordinate-is bound nan p = refl
coordinate-is bound (inf s) p = refl
coordinate-is nan (fin s m e) p = absurd (false≢true (sym p))
coordinate-is (inf t) (fin s m e) p =
    rw (le_total (fin s m e) (inf t) refl refl, le_total (inf (not t)) (fin s m e) refl refl)
    (outside-or (lt (inf t) (fin s m e)) (lt (fin s m e) (inf (not t))))
coordinate-is (fin t n d) (fin s m e) p =
    rw (le_total (fin s m e) (fin t n d) refl refl, le_total (fin (not t) n d) (fin s m e) refl refl)
    (outside-or (lt (fin t n d) (fin s m e)) (lt (fin s m e) (fin (not t) n d)))

bound-is-number : (u : Unit) → is_nan (unit_bound u) ≡ false
unfolding is_nan of_bits
bound-is-number Millimetre = refl
bound-is-number Micrometre = refl

pub says-coordinate : (i : Input) (k : ℕ) → Says (BadCoordinate i k) (bad_coordinate (bound_in i) (get_or i.points k nan))
says-coordinate i k =
    let x = get_or i.points k nan in
    says_same (says-or (says-not (finite x)) (says-or (says-itself (lt (bound_in i) x)) (says-itself (lt x (neg (bound_in i))))))
    (coordinate-is (bound_in i) x (bound-is-number (unit_of i.options.unit)))

-- ratio 0.0 or -0.0
pub says-zero : (i : Input) → Says (RatioZero i) (eq i.options.ratio zero_float)
says-zero i = says-itself (eq i.options.ratio zero_float)

-- ---- 8 and 9

-- three tests joined, from the left or from the right
three-and : (a b c : Bool) → not (a && b && c) ≡ not (a && (b && c))
three-and true b c = refl
three-and false b c = refl

-- 8: a face names a point not below V
pub says-outside : (i : Input) (k : ℕ) → Says (Outside i k) (outside (points_in i) (face_at i.faces k))
says-outside i k =
    let v = points_in i in
    let f = face_at i.faces k in
    says_same
    (says-not-both (ltb f.a v) (ltb f.b v && ltb f.c v) (says-least f.a v)
    (says-not-both (ltb f.b v) (ltb f.c v) (says-least f.b v) (says-least f.c v)))
    (three-and (ltb f.a v) (ltb f.b v) (ltb f.c v))

-- 9: a face names one point twice
pub says-doubled : (i : Input) (k : ℕ) → Says (Doubled i k) (doubled (face_at i.faces k))
says-doubled i k =
    let f = face_at i.faces k in
    says_same
    (says-or (says-equal f.a f.b) (says-or (says-equal f.b f.c) (says-equal f.c f.a)))
    (or_assoc (eqb f.a f.b) (eqb f.b f.c) (eqb f.c f.a))

-- 8 or 9
pub says-bad-face : (i : Input) (k : ℕ) → Says (BadFace i k) (outside (points_in i) (face_at i.faces k) || doubled (face_at i.faces k))
says-bad-face i k = says-or (says-outside i k) (says-doubled i k)

-- ---- 12

-- an entry is not above the one before it
says-not-above : (margin : List ℕ) (x k : ℕ) →
    Says ((j : ℕ) × (suc j ≡ k) × (x ≤ get_or margin j 0)) (ltb 0 k && leb x (get_or margin (k - 1) 0))
says-not-above margin x zero = record { holds = λ t. absurd (false≢true t); passes = λ p. let (j, e, h) = p in absurd (omega arith) }
says-not-above margin x (suc k) =
    let before : suc k - 1 ≡ k = omega arith in
    let said = says-most x (get_or margin k 0) in
    record {
      holds = λ t. (k, refl, said.holds (rw (lt-ltb 0 (suc k) (omega arith), before) at t));
      passes = λ p.
          let (j, e, h) = p in
          let same : j ≡ k = omega arith in
          rw (lt-ltb 0 (suc k) (omega arith), before) (said.passes (rw same at h));
    }

-- 12: an entry of the margin is not below V, or not above the entry before it
pub says-bad-entry : (i : Input) (k : ℕ) → Says (BadEntry i k) (bad_entry (points_in i) i.margin k)
says-bad-entry i k = let x = get_or i.margin k 0 in says-or (says-least x (points_in i)) (says-not-above i.margin x k)
