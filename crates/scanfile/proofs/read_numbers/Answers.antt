-- `scanfile::read_numbers` meets its contract.
-- Assumes nothing.
use Prim.Native.Nat.{ℕ}
use native.Mathlib.Omega.{arith}
use mathlib.Core.Path.{ap, ◌∙◌}
use mathlib.Core.List.{List, map-id}
use Rattle.records.specs.Words.{numbers_from}
use Rattle.lists.specs.Lists.{overlaid}
use Rattle.scanfile.proofs.ContentLaws.{start, turn, done}
use Rattle.scanfile.proofs.read_numbers.Goals as goal

pub loop-i-init : goal.loop-i-init
loop-i-init c = start _ _ _ _ _ c.requires.room

pub loop-i-preserved : goal.loop-i-preserved
loop-i-preserved c =
    turn _ _ _ _ c.loop-i.cell-items c.loop-i.i _ c.loop-i.invariant (omega (arith, c.loop-i.invariant.long)) c.four_bytes.ensures

pub returns : goal.returns
returns c =
    done _ _ _ _ c.loop-i.cell-items _ c.loop-i.i c.loop-i.invariant (omega (arith, c.loop-i.invariant.long))
    ∙ ap (λ (numbers : List ℕ). overlaid numbers c.args.out.now) (map-id (numbers_from c.args.bytes.now c.args.at c.args.n))
