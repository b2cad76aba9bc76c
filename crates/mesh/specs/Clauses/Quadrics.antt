-- What the steps of laying quadrics leave in the f64 memory.
use Rattle.std.specs.Prelude.{ℕ, ◌*◌, ◌<◌, ◌≡◌, List, Float, length, drop}
use Rattle.geometry.specs.declared.Quadric.{Quadric}
use Rattle.geometry.specs.Quadrics.{quadric_sum}
use Rattle.walk.specs.declared.Face.{Face}
use Rattle.memory.specs.Points.{quadric_at, with_quadric}

-- a quadric added to that of one point
unfoldable pub with_sum : List Float → ℕ → Quadric → List Float
with_sum q x b = with_quadric q x (quadric_sum (quadric_at q x) b)

-- and to those of a face's three points, in order
unfoldable pub with_face : List Float → Face → Quadric → List Float
with_face q f b = with_sum (with_sum (with_sum q f.a b) f.b b) f.c b

-- each of v points has the quadric that is said for it; the memory is as long as before, and the same past them
pub record QuadricsAre (v : ℕ) (said : ℕ → Quadric) (q q' : List Float) : Type 0 where
  pub at : (x : ℕ) → x < v → quadric_at q' x ≡ said x
  pub same_length : length q' ≡ length q
  pub rest : drop (10 * v) q' ≡ drop (10 * v) q
