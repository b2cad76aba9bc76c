-- Gathering the quadrics of a list of faces: one face more, and what of the points it hangs on.
-- Assumes nothing.
use Prim.Native.Nat.{ℕ, ◌<◌}
use mathlib.Core.Path.{◌≡◌, refl, ap, ◌∙◌}
use mathlib.Core.List.{List, [], ◌∷◌, ◌++◌}
use mathlib.Core.Bool.{true, cond}
use lib.Ieee.{Float}
use Rattle.geometry.specs.declared.Quadric.{Quadric}
use Rattle.geometry.specs.Quadrics.{quadric_sum}
use Rattle.walk.specs.declared.Face.{Face}
use Rattle.lists.specs.Lists.{every}
use Rattle.walk.specs.Faces.{holds, proper}
use Rattle.lists.proofs.EveryLaws.{every-head, every-tail}
use Rattle.walk.proofs.FaceLaws.{corners}
use Rattle.meaning.specs.Input.{point_at}
use Rattle.meaning.specs.Start.{face_quadric, gathered}

-- a point's quadric after a face
abbrev pub with_held : List Float → ℕ → Quadric → Face → Quadric
with_held points x q f = cond (holds x f) (quadric_sum q (face_quadric points f)) q

-- one face more is added last
pub gathered_next : (points : List Float) (x : ℕ) (q : Quadric) (fs : List Face) (f : Face) →
    gathered points x q (fs ++ (f ∷ [])) ≡ with_held points x (gathered points x q fs) f
unfolding gathered
gathered_next points x q [] f = refl
gathered_next points x q (g ∷ fs) f = gathered_next points x (with_held points x q g) fs f

-- two lists of points that agree where the faces have theirs
module _ (points points' : List Float) (v : ℕ) (same : (x : ℕ) → x < v → point_at points' x ≡ point_at points x) where
  face-quadric-same : (f : Face) → proper v f ≡ true → face_quadric points' f ≡ face_quadric points f
  face-quadric-same f h =
      let k = corners v f h in rw (same f.a k.a_below, same f.b k.b_below, same f.c k.c_below)

  pub gathered-same : (x : ℕ) (q : Quadric) (fs : List Face) → every (proper v) fs ≡ true → gathered points' x q fs ≡ gathered points x q fs
  unfolding gathered
  gathered-same x q [] all = refl
  gathered-same x q (f ∷ fs) all =
      ap (λ (r : Quadric). gathered points' x (cond (holds x f) (quadric_sum q r) q) fs) (face-quadric-same f (every-head (proper v) f fs all))
      ∙ gathered-same x (with_held points x q f) fs (every-tail (proper v) f fs all)
