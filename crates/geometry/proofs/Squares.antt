-- A point's dot with itself is a sum of squares: a NaN, or not below zero. Assumes nothing.
use lib.Dec.{T}
use lib.Ieee.{binary32, fits}
use lib.Ieee.Fits.{add-fits}
use Rattle.bits.proofs.NotBelowZero.{NeverBelow, square-never-below, add-never-below}
use Rattle.geometry.specs.declared.Point.{Point}
use Rattle.geometry.specs.Points.{dot}

pub dot-never-below : (p : Point) → NeverBelow (dot p p)
dot-never-below p =
    add-never-below binary32
    (add-never-below binary32 (square-never-below binary32 p.x) (square-never-below binary32 p.y))
    (square-never-below binary32 p.z)

-- f32 holds any dot
pub dot-fits : (p q : Point) → T (fits binary32 (dot p q))
dot-fits p q = add-fits binary32 _ _
