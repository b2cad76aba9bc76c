-- `scanfile::read_points` meets its contract.
-- Assumes nothing.
use native.Mathlib.Omega.{arith}
use Rattle.scanfile.proofs.ContentLaws.{start, turn, done}
use Rattle.scanfile.proofs.read_points.Goals as goal

pub loop-i-init : goal.loop-i-init
loop-i-init c = start _ _ _ _ _ c.requires.room

pub loop-i-preserved : goal.loop-i-preserved
loop-i-preserved c =
    turn _ _ _ _ c.loop-i.cell-items c.loop-i.i _ c.loop-i.invariant (omega (arith, c.loop-i.invariant.long)) c.float_at.ensures

pub returns : goal.returns
returns c = done _ _ _ _ c.loop-i.cell-items _ c.loop-i.i c.loop-i.invariant (omega (arith, c.loop-i.invariant.long))
