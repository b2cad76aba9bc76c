-- What the steps of a fold do to the u32 memory.
use Rattle.std.specs.Prelude.{ℕ, ◌+◌, ◌*◌, List, [], ◌∷◌, cond, eqb, set}
use Rattle.walk.specs.Faces.{holds, face_at}
use Rattle.memory.specs.Memory.{corner, first, lives}
use Rattle.memory.specs.Layout.{firsts_from, lives_from, nexts_from}

-- a step for each slot of a list, in order
unfoldable pub in_turn : (ℕ → List ℕ → List ℕ) → List ℕ → List ℕ → List ℕ
in_turn step [] w = w
in_turn step (k ∷ ks) w = in_turn step ks (step k w)

-- the face in slot k is killed if it holds x
unfoldable pub killed : ℕ → ℕ → ℕ → List ℕ → List ℕ
killed f x k w = cond (holds x (face_at w k)) (set w (lives_from f + k) 0) w

-- which corner of the face in slot k is at x: its first, its second, or else its third
unfoldable pub corner_of : List ℕ → ℕ → ℕ → ℕ
corner_of w k x = cond (eqb (corner w (3 * k)) x) (3 * k) (cond (eqb (corner w (3 * k + 1)) x) (3 * k + 1) (3 * k + 2))

-- the corner c gets the point new, and is put at the head of that point's chain
unfoldable pub moved : ℕ → ℕ → ℕ → List ℕ → List ℕ
moved f c new w = set (set (set w c new) (nexts_from f + c) (first f (set w c new) new)) (firsts_from f + new) (c + 1)

-- in slot k, where the face is live, the corner at old gets the point new
unfoldable pub relisted : ℕ → ℕ → ℕ → ℕ → List ℕ → List ℕ
unfolding moved corner_of
relisted f old new k w = cond (lives f w k) (moved f (corner_of w k old) new w) w
