-- The faces, where a change leaves their cells.
-- Assumes nothing.
use Prim.Native.Nat.{ℕ, ◌+◌, ◌*◌, ◌≤◌, ◌<◌}
use native.Mathlib.Omega.{arith}
use mathlib.Core.Path.{◌≡◌, ap₂}
use mathlib.Core.List.{List}
use mathlib.Core.Bool.{Bool, ◌&&◌}
use Rattle.lists.specs.Frames.{But}
use Rattle.walk.specs.declared.Face.{Face}
use Rattle.walk.specs.Faces.{holds, face_at}
use Rattle.memory.specs.Memory.{lives, live_at}
use Rattle.memory.specs.Layout.{lives_from}

module _ {lo hi f : ℕ} {w w' : List ℕ} (but : But lo hi w w') (above : 4 * f ≤ lo) (k : ℕ) (below-f : k < f) where
  -- its flag, its points, and whether it is live and holds a point
  pub lives-but : lives f w' k ≡ lives f w k
  lives-but = rw (but.under (lives_from f + k) (omega arith))

  pub face-but : face_at w' k ≡ face_at w k
  face-but = rw (but.under (3 * k) (omega arith), but.under (3 * k + 1) (omega arith), but.under (3 * k + 2) (omega arith))

  pub live-at-but : (x : ℕ) → live_at f w' x k ≡ live_at f w x k
  live-at-but x = ap₂ (λ (b : Bool) (p : Face). b && holds x p) lives-but face-but
