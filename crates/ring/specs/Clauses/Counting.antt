-- Counting marked points, each once: a point that is counted loses its mark.
use Rattle.std.specs.Prelude.{ℕ, ◌+◌, ◌≡◌, List, Bool, not, ◌&&◌, cond, ltb, eqb}
use Rattle.lists.specs.Lists.{count, below}
use Rattle.memory.specs.Memory.{mark}
use Rattle.ring.specs.Clauses.Marking.{Remarked}

-- a point that is neither of two
abbrev pub other : ℕ → ℕ → ℕ → Bool
other keep remove u = not (eqb keep u) && not (eqb remove u)

-- the marked points that are neither of two, counted
abbrev pub marked : ℕ → ℕ → List ℕ → ℕ → ℕ → ℕ
marked v f w keep remove = count (λ u. other keep remove u && ltb 0 (mark v f w u)) (below v)

-- Those that are asked for, and are neither of two, lose their mark; r of them had one.
pub record Counted (v f keep remove : ℕ) (asked : ℕ → Bool) (w w' : List ℕ) (r : ℕ) : Type 0 where
  pub remarked : Remarked v f (λ u m. cond (asked u && other keep remove u) 0 m) w w'
  pub number : r + marked v f w' keep remove ≡ marked v f w keep remove
