-- Why a pair was closed, as a reader takes it (document 01, "A fold is allowed if"; document 02, wish 4): what each reason says of the mesh at that step.
use Rattle.std.specs.Prelude.{ℕ, ◌<◌, ◌≡◌, Bool, true, false}
use mathlib.Core.List.{List, Memᴰ}
use Rattle.geometry.specs.declared.Point.{Point}
use Rattle.geometry.specs.Points.{normal}
use Rattle.walk.specs.declared.Face.{Face}
use Rattle.walk.specs.declared.Pair.{Pair}
use Rattle.walk.specs.declared.Reason.{Reason}
use Rattle.walk.specs.declared.Reason.TheVariants.{NotLinked, Squashed, TurnedOver}
use Rattle.walk.specs.Faces.{face_at}
use Rattle.walk.specs.Fold.{renamed_by}
use Rattle.walk.specs.FoldTest.{linked, moved_of}
use Rattle.meaning.specs.Arithmetic.{squashed_normals, turned_normals}
use Rattle.meaning.specs.Input.{Input, points_in}
use Rattle.meaning.specs.Outcome.{rules_in}
use Rattle.promises.specs.Steps.{state_at, folds_to, faces_at, normal_at}
use Rattle.promises.specs.Fair.{holds_one}

-- the input's face number k as it is after n steps: with the points of the folds made up to there joined
abbrev pub face_now : Input → ℕ → ℕ → Face
face_now i n k = renamed_by (folds_to i n) (face_at i.faces k)

-- the numbers that the faces live after n steps have in the input
abbrev pub numbers_at : Input → ℕ → List ℕ
numbers_at i n = (state_at i n).mesh.numbers

-- the normal that a face would have after the fold of p, which moves keep and remove to the pair's place
abbrev pub normal_folded : Input → ℕ → Pair → Face → Point
normal_folded i n p f =
    let moved = moved_of (rules_in i) (state_at i n).mesh p in
    normal (moved f.a).point (moved f.b).point (moved f.c).point

-- whether the fold of p would squash the face number k, and whether it would turn it over
abbrev pub squashes : Input → ℕ → Pair → ℕ → Bool
squashes i n p k = squashed_normals (normal_at i n (face_now i n k)) (normal_folded i n p (face_now i n k))

abbrev pub turns_over : Input → ℕ → Pair → ℕ → Bool
turns_over i n p k = turned_normals (normal_at i n (face_now i n k)) (normal_folded i n p (face_now i n k))

-- The face number k is live and holds just one of the pair's two points, and no face of a lower number that does would be squashed or turned over.
pub record LowestHarmed (i : Input) (n : ℕ) (p : Pair) (k : ℕ) : Type 0 where
  pub is_live : Memᴰ k (numbers_at i n)
  pub face_live : Memᴰ (face_now i n k) (faces_at i n)
  pub holds_just_one : holds_one p (face_now i n k) ≡ true
  pub none-lower :
      (j : ℕ) → j < k → Memᴰ j (numbers_at i n) → holds_one p (face_now i n j) ≡ true
      → (squashes i n p j ≡ false) × (turns_over i n p j ≡ false)

-- whether the pair's points are linked after n steps
abbrev pub linked_at : Input → ℕ → Pair → Bool
linked_at i n p = linked (points_in i) (faces_at i n) p.keep p.remove

-- What a reason says of a pair after n steps: its points are not linked; or they are, and the fold would squash the lowest face that it harms; or it would not
-- squash it and turn it over.
abbrev pub ReasonTrue : Input → ℕ → Pair → Reason → Type 0
ReasonTrue i n p NotLinked = linked_at i n p ≡ false
ReasonTrue i n p (Squashed k) = (linked_at i n p ≡ true) × LowestHarmed i n p k × (squashes i n p k ≡ true)
ReasonTrue i n p (TurnedOver k) = (linked_at i n p ≡ true) × LowestHarmed i n p k × (squashes i n p k ≡ false) × (turns_over i n p k ≡ true)
