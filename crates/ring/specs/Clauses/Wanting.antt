-- The faces around a point ask for some of its points, and these are marked.
use Rattle.std.specs.Prelude.{ℕ, ◌<◌, ◌≡◌, List, Bool, true, not, ◌&&◌, cond, ltb, eqb}
use Rattle.walk.specs.declared.Face.{Face}
use Rattle.lists.specs.Lists.{some, stretch}
use Rattle.walk.specs.Faces.{runs, proper, face_at}
use Rattle.memory.specs.Memory.{near_at}
use Rattle.memory.specs.Layout.{near_from}
use Rattle.ring.specs.declared.Neighbours.{Neighbours}
use Rattle.ring.specs.declared.Neighbours.TheVariants.{Rising, Every}
use Rattle.ring.specs.Clauses.Marking.{Remarked}

-- each of the first n names a face of three distinct points
abbrev pub Near : (v f : ℕ) (w : List ℕ) (n : ℕ) → Type 0
Near v f w n = (i : ℕ) → i < n → (near_at v f w i < f) × (proper v (face_at w (near_at v f w i)) ≡ true)

-- a test passes at one of the first n
abbrev pub found : ℕ → ℕ → List ℕ → ℕ → (Face → Bool) → Bool
found v f w n test = some (λ k. test (face_at w k)) (stretch w (near_from v f) n)

-- ---- marks

-- what a face around x asks of its point y: at the start that its edge rises from x to y, after a fold that y isn't x
abbrev pub wanted : Neighbours → ℕ → ℕ → Face → Bool
wanted Rising x y face = ltb x y && runs x y face
wanted Every x y face = not (eqb x y)

-- some points are marked, and nothing else is changed
abbrev pub Marks : (v f : ℕ) (which : ℕ → Bool) (w w' : List ℕ) → Type 0
Marks v f which w w' = Remarked v f (λ u m. cond (which u) 1 m) w w'
