-- The cells of the lent u32 memory by name, and what they say of the mesh.
use Rattle.std.specs.Prelude.{ℕ, ◌+◌, ◌≤◌, ◌<◌, ◌≡◌, List, map, Bool, true, ◌&&◌, eqb, length, get_or}
use Rattle.walk.specs.declared.Face.{Face}
use Rattle.lists.specs.Lists.{those, below, stretch}
use Rattle.walk.specs.Faces.{holds, proper, face_at}
use Rattle.memory.specs.Layout.{around_from, firsts_from, kinds_from, lives_from, marks_from, near_from, nexts_from, u32s_needed}

-- ---- the cells

abbrev pub corner : List ℕ → ℕ → ℕ
corner w c = get_or w c 0

abbrev pub live : ℕ → List ℕ → ℕ → ℕ
live f w k = get_or w (lives_from f + k) 0

abbrev pub next : ℕ → List ℕ → ℕ → ℕ
next f w c = get_or w (nexts_from f + c) 0

abbrev pub first : ℕ → List ℕ → ℕ → ℕ
first f w x = get_or w (firsts_from f + x) 0

abbrev pub kind : ℕ → ℕ → List ℕ → ℕ → ℕ
kind v f w x = get_or w (kinds_from v f + x) 0

abbrev pub mark : ℕ → ℕ → List ℕ → ℕ → ℕ
mark v f w x = get_or w (marks_from v f + x) 0

-- the slot in a place of the list of the faces around a point, and the points around a point that are listed
abbrev pub near_at : ℕ → ℕ → List ℕ → ℕ → ℕ
near_at v f w i = get_or w (near_from v f + i) 0

abbrev pub around_in : ℕ → ℕ → List ℕ → ℕ → List ℕ
around_in v f w n = stretch w (around_from v f) n

-- ---- what they say

-- whether the face in a slot is live. A face's slot is its number in the input.
abbrev pub lives : ℕ → List ℕ → ℕ → Bool
lives f w k = eqb (live f w k) 1

-- a slot of a live face that holds x
abbrev pub live_at : ℕ → List ℕ → ℕ → ℕ → Bool
live_at f w x k = lives f w k && holds x (face_at w k)

-- the numbers of the live faces, and these faces, in face order
abbrev pub live_numbers : ℕ → List ℕ → List ℕ
live_numbers f w = those (lives f w) (below f)

unfoldable pub live_faces : ℕ → List ℕ → List Face
unfolding those below
live_faces f w = map (face_at w) (live_numbers f w)

-- ---- what the functions ask

-- the sizes are within document 01's limits, and the memory has the stated room
pub record Room (v f : ℕ) (w : List ℕ) : Type 0 where
  pub points_few : v ≤ 65536
  pub faces_few : f ≤ 131072
  pub long : u32s_needed v f ≤ length w

-- every live face has three distinct points below v
abbrev pub Proper : (v f : ℕ) (w : List ℕ) → Type 0
Proper v f w = (k : ℕ) → k < f → lives f w k ≡ true → proper v (face_at w k) ≡ true

-- no mark is left
abbrev pub Unmarked : (v f : ℕ) (w : List ℕ) → Type 0
Unmarked v f w = (x : ℕ) → x < v → mark v f w x ≡ 0
