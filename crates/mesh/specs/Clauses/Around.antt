-- The faces around a point, as a list of slots in a part of the memory, and the marks that they leave.
use Rattle.std.specs.Prelude.{ℕ, ◌+◌, ◌≤◌, ◌<◌, ◌≡◌, List, true, ◌&&◌, cond, ltb}
use Rattle.lists.specs.Lists.{sum, count, some, every, below, stretch}
use Rattle.walk.specs.Faces.{holds, face_at}
use Rattle.memory.specs.Memory.{mark, live_at}
use Rattle.lists.specs.Frames.{But}
use Rattle.memory.specs.Layout.{marks_from, stamps_from}

-- The n slots from base on are those of the live faces that hold x, each once: any weight summed over them is the weight summed over those faces.
pub record Gathered (v f : ℕ) (w : List ℕ) (x base n : ℕ) : Type 0 where
  pub few : n ≤ f
  pub slots_live : every (λ k. ltb k f && live_at f w x k) (stretch w base n) ≡ true
  pub sums : (g : ℕ → ℕ) → sum g (stretch w base n) ≡ sum (λ k. cond (live_at f w x k) (g k) 0) (below f)

-- what gathering does: only the f cells from base on change, and they hold the faces around x
pub record Collected (v f : ℕ) (w : List ℕ) (x base : ℕ) (w' : List ℕ) (n : ℕ) : Type 0 where
  pub but : But base (base + f) w w'
  pub gathered : Gathered v f w' x base n

-- what marking does: only marks change, and each point's mark grows by the number of the listed faces that hold it
pub record Marked (v f : ℕ) (w : List ℕ) (base n : ℕ) (w' : List ℕ) : Type 0 where
  pub but : But (marks_from v f) (stamps_from v f) w w'
  pub marks : (u : ℕ) → u < v → mark v f w' u ≡ mark v f w u + count (λ k. holds u (face_at w k)) (stretch w base n)

-- what clearing does: only marks change, and each point of a listed face has none
pub record Cleared (v f : ℕ) (w : List ℕ) (base n : ℕ) (w' : List ℕ) : Type 0 where
  pub but : But (marks_from v f) (stamps_from v f) w w'
  pub marks : (u : ℕ) → u < v → mark v f w' u ≡ cond (some (λ k. holds u (face_at w k)) (stretch w base n)) 0 (mark v f w u)
