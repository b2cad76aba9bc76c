-- Which way faces run in the memory: what is asked, and what is found.
use Rattle.std.specs.Prelude.{ℕ, ◌+◌, ◌-◌, ◌*◌, ◌%◌, ◌≤◌, ◌<◌, ◌≡◌, List, true, false, cond, eqb}
use Rattle.lists.specs.Frames.{But}
use Rattle.walk.specs.Faces.{proper, face_at}
use Rattle.memory.specs.Layout.{folds_from}
use Rattle.sameway.specs.Seen.{seen_from, seen}
use Rattle.memory.specs.Memory.{Room, corner}
use Rattle.sameway.specs.Order.{InOrder}
use Rattle.sameway.specs.Ways.{repeats}

-- ---- the edge from a corner, to the next corner of its face

-- the corner after a corner, around its face
abbrev pub ahead : ℕ → ℕ
ahead c = cond (eqb (c % 3) 2) (c - 2) (c + 1)

-- the point that the edge from a corner leads to
abbrev pub end_of : List ℕ → ℕ → ℕ
end_of w c = corner w (ahead c)

-- the edges from two corners run from the same point to the same point
abbrev pub SameEdge : List ℕ → (d c : ℕ) → Type 0
SameEdge w d c = (corner w d ≡ corner w c) × (end_of w d ≡ end_of w c)

-- a corner has the edge of a lower one, or of none
abbrev pub Repeated : List ℕ → ℕ → Type 0
Repeated w c = (d : ℕ) × (d < c) × SameEdge w d c

abbrev pub New : List ℕ → ℕ → Type 0
New w c = (d : ℕ) → d < c → ¬ SameEdge w d c

-- ---- what is asked

-- f faces with three distinct points below v, in chains that are in order
pub record Ordered (v f : ℕ) (w : List ℕ) : Type 0 where
  pub room : Room v f w
  pub faces_proper : (k : ℕ) → k < f → proper v (face_at w k) ≡ true
  pub in_order : InOrder v f 0 w

-- so far edges were seen from points below x alone
abbrev pub SeenBefore : (v f : ℕ) (w : List ℕ) (x : ℕ) → Type 0
SeenBefore v f w x = (y : ℕ) → y < v → seen v f w y ≤ x

-- ---- what is found

-- The edges from x are looked at. r is the lowest corner at x with the edge of a lower one, or the number of all corners, where there is none. Only what was seen
-- has changed.
pub record Looked (v f : ℕ) (w : List ℕ) (x : ℕ) (w' : List ℕ) (r : ℕ) : Type 0 where
  pub but : But (seen_from v f) (folds_from v f) w w'
  pub seen-before : SeenBefore v f w' (x + 1)
  pub most : r ≤ 3 * f
  pub new-before : (c : ℕ) → c < r → corner w c ≡ x → New w c
  pub repeated : r < 3 * f → Repeated w r

-- r is the lowest face that repeats an edge of a lower one, or f, where none does
pub record Lowest (f : ℕ) (w : List ℕ) (r : ℕ) : Type 0 where
  pub most : r ≤ f
  pub none_before : (k : ℕ) → k < r → repeats w k ≡ false
  pub here : r < f → repeats w r ≡ true
