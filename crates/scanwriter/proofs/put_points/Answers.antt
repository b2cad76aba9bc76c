-- One number after another.
use native.Mathlib.Omega.{arith}
use mathlib.Core.Path.{◌≡◌, sym, ◌∙◌}
use mathlib.Core.List.{List, map}
use lib.ListN.{length, length-map, get_or-map}
use lib.Ieee.{Float, nan, binary32, to_bits}
use Rattle.records.proofs.WordLaws.{none-stored, one-stored, all-stored}
use Rattle.scanwriter.proofs.put_points.Goals as goal

-- as many bits as coordinates
counted : (points : List Float) → length (map (to_bits binary32) points) ≡ length points
counted points = length-map points (to_bits binary32)

pub loop-x-init : goal.loop-x-init
loop-x-init c = none-stored _ _ _

pub loop-x-preserved : goal.loop-x-preserved
loop-x-preserved c =
    one-stored _ _ _ (to_bits binary32 nan) (omega (arith, counted c.args.points.now))
    (c.bits_of_f32.ensures ∙ sym (get_or-map (to_bits binary32) c.args.points.now c.loop-x.x-index nan)) c.loop-x.invariant c.put_four-next.ensures

pub returns : goal.returns
returns c =
    rw (counted c.args.points.now) at (all-stored _ _ _ (omega (arith, counted c.args.points.now)) c.loop-x.invariant)
