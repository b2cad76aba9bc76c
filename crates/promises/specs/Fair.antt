-- A face that is neither squashed nor turned over (document 01, "A fold is allowed if").
use Rattle.std.specs.Prelude.{◌≡◌, Bool, true, not, ◌&&◌, ◌||◌}
use Rattle.std.specs.Float.{binary32}
use Rattle.std.specs.Float.Ieee.{mul, lt}
use Rattle.geometry.specs.declared.Point.{Point}
use Rattle.geometry.specs.Points.{dot, norm}
use Rattle.walk.specs.declared.Face.{Face}
use Rattle.walk.specs.declared.Pair.{Pair}
use Rattle.walk.specs.Faces.{holds, both}
use Rattle.meaning.specs.Arithmetic.{tiny, hundredth}

-- of a face's normals before and after, with f32 norms b and a: `a > 1e-6*b` and dot `> 0.01*b*a`
pub record NotTurned (before after : Point) : Type 0 where
  pub not_squashed : lt (mul binary32 tiny (norm before)) (norm after) ≡ true
  pub not_over : lt (mul binary32 (mul binary32 hundredth (norm before)) (norm after)) (dot before after) ≡ true

-- a face holds just one of a pair's two points, or neither
abbrev pub holds_one : Pair → Face → Bool
holds_one p f = (holds p.keep f || holds p.remove f) && not (both p.keep p.remove f)

abbrev pub holds_neither : Pair → Face → Bool
holds_neither p f = not (holds p.keep f || holds p.remove f)
