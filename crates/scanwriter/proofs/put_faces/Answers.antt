-- One number after another.
use mathlib.Core.Path.{refl}
use borrow.Author.Rules.{rules}
use Rattle.records.proofs.WordLaws.{none-stored, one-stored, all-stored}
use Rattle.scanwriter.proofs.put_faces.Goals as goal

pub loop-number-init : goal.loop-number-init
loop-number-init c = none-stored _ _ _

pub loop-number-preserved : goal.loop-number-preserved
loop-number-preserved c =
    one-stored _ _ _ 0 (search rules) refl c.loop-number.invariant c.put_four-next.ensures

pub returns : goal.returns
returns c = all-stored _ _ _ (search rules) c.loop-number.invariant
