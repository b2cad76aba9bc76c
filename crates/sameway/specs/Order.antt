-- The order of the chains as they are laid: each runs from its point's lowest corner up.
use Rattle.std.specs.Prelude.{ℕ, ◌+◌, ◌*◌, ◌≤◌, ◌<◌, ◌≡◌, ◌≢◌, ◌⊎◌, List}
use Rattle.memory.specs.Memory.{corner, next, first}

-- no corner from lo up to hi is at the point x
abbrev pub NoneAt : List ℕ → (x lo hi : ℕ) → Type 0
NoneAt w x lo hi = (d : ℕ) → lo ≤ d → d < hi → corner w d ≢ x

-- a link leads to the corner c, the lowest from lo on that is at x
pub record LeadsTo (f : ℕ) (w : List ℕ) (x lo link c : ℕ) : Type 0 where
  pub link-is : link ≡ c + 1
  pub from : lo ≤ c
  pub within : c < 3 * f
  pub at-point : corner w c ≡ x
  pub none_before : NoneAt w x lo c

-- or the link is 0, and there is none
abbrev pub Leads : ℕ → List ℕ → (x lo link : ℕ) → Type 0
Leads f w x lo link = ((link ≡ 0) × NoneAt w x lo (3 * f)) ⊎ ((c : ℕ) × LeadsTo f w x lo link c)

-- In order, of the corners from a lowest one on: a point's first link leads to the first of them at that point, and each one's link to the next of them at the same point.
pub record InOrder (v f lowest : ℕ) (w : List ℕ) : Type 0 where
  pub firsts : (x : ℕ) → x < v → Leads f w x lowest (first f w x)
  pub nexts : (c : ℕ) → lowest ≤ c → c < 3 * f → Leads f w (corner w c) (c + 1) (next f w c)
