-- The quadrics of listed points are read a part of eight at a time: what that asks, and what it leaves.
use Rattle.std.specs.Prelude.{ℕ, ◌+◌, ◌/◌, ◌%◌, ◌≤◌, ◌<◌, ◌≡◌, ◌≢◌, List, min, length, get_or, Float}
use Rattle.memory.specs.Points.{quadric_at}
use Rattle.memory.specs.Layout.{around_from}

-- how many of those that are left are read next
abbrev pub part_of : ℕ → ℕ
part_of left = min left 8

-- the first ones of the list are points
abbrev pub PointsListed : (v f : ℕ) (w : List ℕ) (count : ℕ) → Type 0
PointsListed v f w count = (i : ℕ) → i < count → get_or w (around_from v f + i) 0 < v

-- the quadrics of some listed points, from one on, stand side by side
pub record PartRead (v f : ℕ) (w : List ℕ) (q : List Float) (from some : ℕ) (near near' : List Float) : Type 0 where
  pub same_length : length near' ≡ length near
  pub read : (j : ℕ) → j < some → quadric_at near' j ≡ quadric_at q (get_or w (around_from v f + (from + j)) 0)

-- those of the listed points from i on stand there, up to the end of its part
pub record ReadAt (v f : ℕ) (w : List ℕ) (q : List Float) (count i : ℕ) (near : List Float) : Type 0 where
  pub long : length near ≡ 80
  pub read : (j : ℕ) → i ≤ j → j < count → j / 8 ≡ i / 8 → quadric_at near (j % 8) ≡ quadric_at q (get_or w (around_from v f + j) 0)

-- they do but where a part begins
pub record ReadBefore (v f : ℕ) (w : List ℕ) (q : List Float) (count i : ℕ) (near : List Float) : Type 0 where
  pub long : length near ≡ 80
  pub read : i % 8 ≢ 0 → ReadAt v f w q count i near
