-- The lowest face that a fold harms.
use Rattle.std.specs.Prelude.{ℕ, ◌≤◌, ◌<◌, ◌≡◌, List, [], ◌∷◌, Bool, true, ◌&&◌, ◌||◌, cond, ltb, Float, Ok}
use Rattle.geometry.specs.declared.Point.{Point}
use Rattle.walk.specs.Faces.{face_at}
use Rattle.walk.specs.FoldTest.{asked}
use Rattle.memory.specs.Memory.{lives}
use Rattle.foldtest.specs.Clauses.Fair.{squashed_at, turned_at, harm_at}

-- the lowest number of a list that passes a test and is below another number, or else that number
unfoldable pub lowest_of : (ℕ → Bool) → ℕ → List ℕ → ℕ
lowest_of test best [] = best
lowest_of test best (k ∷ ks) = lowest_of test (cond (ltb k best && test k) k best) ks

-- k is the number of the lowest live face that the fold harms, or F where it harms none
pub record LowestHarm (f : ℕ) (w : List ℕ) (p : List Float) (keep remove : ℕ) (place : Point) (k : ℕ) : Type 0 where
  pub within : k ≤ f
  pub none_below : (j : ℕ) → j < k → lives f w j ≡ true → harm_at p keep remove place j (face_at w j) ≡ Ok tt
  pub found : k < f →
      (lives f w k ≡ true)
      × (asked keep remove (face_at w k) ≡ true)
      × ((squashed_at p keep remove place (face_at w k) || turned_at p keep remove place (face_at w k)) ≡ true)
