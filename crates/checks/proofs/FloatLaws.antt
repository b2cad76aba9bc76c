-- Which floats a test in the code lets pass, for every float, NaN too.
use mathlib.Core.Path.{◌≡◌, refl}
use mathlib.Core.Bool.{true, false, ◌&&◌}
use Prim.Native.Nat.{◌*◌}
use borrow.Author.Tests.{eq-eqb}
use lib.Ieee.{Float, nan, inf, fin, up, down, lt, ne, eq, is_nan}
use lib.Ieee.Scale.{finite}

-- a float is finite exactly where it lies between the infinities
pub between-infinities : (x : Float) → (lt x (inf false) && lt (inf true) x) ≡ finite x
unfolding lt
between-infinities nan = refl
between-infinities (inf true) = refl
between-infinities (inf false) = refl
between-infinities (fin s m e) = refl

-- NaN alone differs from itself
pub nan-alone-differs : (x : Float) → ne x x ≡ is_nan x
unfolding ne eq is_nan
nan-alone-differs nan = refl
nan-alone-differs (inf true) = refl
nan-alone-differs (inf false) = refl
nan-alone-differs (fin true m e) = rw (eq-eqb (m * up e * down e) (m * up e * down e) refl)
nan-alone-differs (fin false m e) = rw (eq-eqb (m * up e * down e) (m * up e * down e) refl)
