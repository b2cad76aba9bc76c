-- std's test of a float, `x.is_finite()`, is the one that the definitions make. Assumes nothing.
use mathlib.Core.Path.{◌≡◌, refl}
use lib.Ieee.{Float, nan, inf, fin}
use lib.Ieee.Scale.{finite}
use Rattle.std.specs.Float.{float_is_finite}

pub is-finite : (x : Float) → float_is_finite x ≡ finite x
unfolding float_is_finite
is-finite nan = refl
is-finite (inf s) = refl
is-finite (fin s m e) = refl
