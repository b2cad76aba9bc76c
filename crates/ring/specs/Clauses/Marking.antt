-- A list of faces, and what is done to the marks of its points.
use Rattle.std.specs.Prelude.{ℕ, ◌+◌, ◌≤◌, ◌<◌, ◌≡◌, List, Bool, true, not, ◌&&◌, ◌||◌, ltb, eqb, length}
use Rattle.walk.specs.declared.Face.{Face}
use Rattle.lists.specs.Lists.{some, every, stretch}
use Rattle.walk.specs.Faces.{holds, proper, face_at}
use Rattle.memory.specs.Memory.{mark}
use Rattle.lists.specs.Frames.{But}
use Rattle.mesh.specs.Clauses.Around.{Gathered}
use Rattle.memory.specs.Layout.{marks_from, near_from, stamps_from}

-- n slots of proper faces from base on, above the mesh's own cells and within the memory
pub record FacesListed (v f : ℕ) (w : List ℕ) (base n : ℕ) : Type 0 where
  pub above : near_from v f ≤ base
  pub within : base + n ≤ length w
  pub all_proper : every (λ k. ltb k f && proper v (face_at w k)) (stretch w base n) ≡ true

-- the faces around x, gathered from base on, above the mesh's own cells and within the memory
pub record Around (v f : ℕ) (w : List ℕ) (x base n : ℕ) : Type 0 where
  pub above : near_from v f ≤ base
  pub within : base + f ≤ length w
  pub gathered : Gathered v f w x base n

-- only marks change, and each point's mark by a rule
pub record Remarked (v f : ℕ) (rule : ℕ → ℕ → ℕ) (w w' : List ℕ) : Type 0 where
  pub but : But (marks_from v f) (stamps_from v f) w w'
  pub marks : (u : ℕ) → u < v → mark v f w' u ≡ rule u (mark v f w u)

-- no mark has come to the number of faces, so that one more fits
abbrev pub FewMarks : (v f : ℕ) (w : List ℕ) → Type 0
FewMarks v f w = (u : ℕ) → u < v → mark v f w u < f

-- a point other than x that has the mark 1
abbrev pub single : ℕ → ℕ → List ℕ → ℕ → ℕ → Bool
single v f w x u = not (eqb x u) && eqb (mark v f w u) 1

-- some point of a face passes a test
abbrev pub some_point : (ℕ → Bool) → Face → Bool
some_point test p = test p.a || test p.b || test p.c

-- some listed face holds a point
abbrev pub held_in : List ℕ → ℕ → ℕ → ℕ → Bool
held_in w base n u = some (λ k. holds u (face_at w k)) (stretch w base n)
