-- What is known while the output is written: which points have been met, where their numbers are kept, and what is out.
use Rattle.std.specs.Prelude.{ℕ, ◌+◌, ◌*◌, ◌≤◌, ◌<◌, ◌≡◌, List, [], ◌∷◌, ◌++◌, true, cond, ltb, eqb, length, set, Float}
use Rattle.geometry.specs.declared.Point.{Point}
use Rattle.walk.specs.declared.Face.{Face}
use Rattle.lists.specs.Lists.{count, some, every, overlaid}
use Rattle.walk.specs.Output.{noted, used, place_in, renumbered, numbers_of}
use Rattle.memory.specs.Memory.{mark}
use Rattle.lists.specs.Frames.{But}
use Rattle.memory.specs.Points.{parts_of}
use Rattle.output.specs.declared.Counts.{Counts}
use Rattle.output.specs.declared.writing.NewNumber.{NewNumber}
use Rattle.memory.specs.Layout.{marks_from, stamps_from}

-- three elements as the three number n of a list, and a point's parts so
abbrev pub three_put : {A : Type 0} → List A → ℕ → A → A → A → List A
three_put xs n a b c = set (set (set xs (3 * n) a) (3 * n + 1) b) (3 * n + 2) c

abbrev pub parts_put : List Float → ℕ → Point → List Float
parts_put xs n point = three_put xs n point.x point.y point.z

-- Just the points of a list have been met, in its order: their marks are their places plus 1, and their parts are out, over what stood there.
pub record Met (v f : ℕ) (p old : List Float) (seen w : List ℕ) (points : List Float) (met : ℕ) : Type 0 where
  pub marks : (x : ℕ) → x < v → mark v f w x ≡ cond (some (eqb x) seen) (place_in seen x + 1) 0
  pub out : points ≡ overlaid (parts_of p seen) old
  pub counted : met ≡ length seen
  pub low : every (λ x. ltb x v) seen ≡ true
  pub once : (x : ℕ) → count (eqb x) seen ≤ 1
  pub long : 3 * v ≤ length old

-- some list is that of the points met
pub record Known (v f : ℕ) (p : List Float) (w : List ℕ) (points : List Float) (met : ℕ) : Type 0 where
  pub old : List Float
  pub seen : List ℕ
  pub met-now : Met v f p old seen w points met

-- x has its number: whatever list was that of the points met, it is now that list with x noted
pub record Numbered (v f : ℕ) (p : List Float) (x : ℕ) (w : List ℕ) (points : List Float) (met : ℕ)
    (w' : List ℕ) (points' : List Float) (r : NewNumber) : Type 0 where
  pub but : But (marks_from v f) (stamps_from v f) w w'
  pub met-then : (old : List Float) (seen : List ℕ) → Met v f p old seen w points met → Met v f p old (noted seen x) w' points' r.met
  pub number : (old : List Float) (seen : List ℕ) → Met v f p old seen w points met → r.number ≡ place_in (noted seen x) x

-- the faces of a list have been written: their points have been met, and the faces are out by the new numbers, over what stood there
pub record FacesOut (v f : ℕ) (p old : List Float) (before : List ℕ) (fs : List Face)
    (w : List ℕ) (points : List Float) (faces : List ℕ) (r : Counts) : Type 0 where
  pub met : Met v f p old (used [] fs) w points r.points
  pub faces_written : faces ≡ overlaid (numbers_of (renumbered fs)) before
  pub faces_counted : r.faces ≡ length fs

-- one face more is written: whatever faces were written before, they are now those with this face after them
pub record FaceWritten (v f : ℕ) (p : List Float) (face : Face) (w : List ℕ) (points : List Float) (faces : List ℕ) (counts : Counts)
    (w' : List ℕ) (points' : List Float) (faces' : List ℕ) (r : Counts) : Type 0 where
  pub but : But (marks_from v f) (stamps_from v f) w w'
  pub same_faces : length faces' ≡ length faces
  pub listed : (old : List Float) (before : List ℕ) (fs : List Face) → 3 * length fs + 3 ≤ length before →
      FacesOut v f p old before fs w points faces counts → FacesOut v f p old before (fs ++ (face ∷ [])) w' points' faces' r
