-- What is true of every state that the walk reaches (document 01, "True after every step").
use Rattle.std.specs.Prelude.{ℕ, ◌≤◌, ◌≡◌, Bool, true, not, ◌&&◌, ◌||◌, ltb, eqb, length}
use Rattle.walk.specs.declared.Pair.{Pair}
use Rattle.lists.specs.Lists.{count, every}
use Rattle.walk.specs.Faces.{proper, shared}
use Rattle.walk.specs.Walk.{State}

-- a pair joins two points, either way round
abbrev pub joins : ℕ → ℕ → Pair → Bool
joins x y p = (eqb p.keep x && eqb p.remove y) || (eqb p.keep y && eqb p.remove x)

-- an open pair is of two points, and some live face holds both
abbrev pub held_by : {D : Type 0} → State D → Pair → Bool
held_by s p = not (eqb p.keep p.remove) && ltb 0 (shared s.mesh.faces p.keep p.remove)

pub record Sound {D : Type 0} (s : State D) : Type 0 where
  -- every live face has three distinct points that there are
  pub faces_proper : every (proper (length s.mesh.points)) s.mesh.faces ≡ true
  -- every open pair is held by some live face
  pub open_held : every (held_by s) s.«open» ≡ true
  -- at most one open pair joins any two points
  pub open_single : (x y : ℕ) → count (joins x y) s.«open» ≤ 1
