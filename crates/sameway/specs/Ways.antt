-- Which way faces run along their edges (document 02, wish 7).
use Rattle.std.specs.Prelude.{ℕ, ◌≤◌, ◌≢◌, List, Bool, ◌&&◌, ◌||◌}
use Rattle.lists.specs.Lists.{count, some, below}
use Rattle.walk.specs.declared.Face.{Face}
use Rattle.walk.specs.declared.Pair.{Pair}
use Rattle.walk.specs.Faces.{holds, both, runs, face_at}

-- two faces use one edge from the same point to the same point
abbrev pub same_way : Face → Face → Bool
same_way f g = runs f.a f.b g || runs f.b f.c g || runs f.c f.a g

-- each edge is run along from one point to the other by at most one face
abbrev pub OneWay : List Face → Type 0
OneWay faces = (x y : ℕ) → count (runs x y) faces ≤ 1

-- no two faces that hold both points of a pair have the same third point
abbrev pub ThirdsDiffer : List Face → Pair → Type 0
ThirdsDiffer faces p = (z : ℕ) → z ≢ p.keep → z ≢ p.remove → count (λ f. both p.keep p.remove f && holds z f) faces ≤ 1

-- face k uses an edge from the same point to the same point as a lower face does
abbrev pub repeats : List ℕ → ℕ → Bool
repeats faces k = some (λ j. same_way (face_at faces j) (face_at faces k)) (below k)
