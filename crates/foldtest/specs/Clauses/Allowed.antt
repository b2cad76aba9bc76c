-- The fold test in memory (document 01, "A fold is allowed if"; document 02, wish 4).
use Rattle.std.specs.Prelude.{ℕ, List, cond, Float, ⊤, Result, Err}
use Rattle.geometry.specs.declared.Point.{Point}
use Rattle.walk.specs.declared.Reason.{Reason}
use Rattle.walk.specs.declared.Reason.TheVariants.{NotLinked}
use Rattle.walk.specs.FoldTest.{linked, first_harm}
use Rattle.memory.specs.Memory.{live_faces, live_numbers}
use Rattle.foldtest.specs.Clauses.Fair.{harm_at}

-- of the live faces in memory, and a place for keep that was worked out before
unfoldable pub tested_at : ℕ → ℕ → List ℕ → List Float → ℕ → ℕ → Point → Result ⊤ Reason
unfolding first_harm harm_at
tested_at v f w p keep remove place =
    cond (linked v (live_faces f w) keep remove)
    (first_harm (harm_at p keep remove place) (live_faces f w) (live_numbers f w))
    (Err NotLinked)
