-- `ring::around::mark_corner` meets its contract: one mark is set, or none.
-- Assumes nothing.
use mathlib.Core.Path.{sym, ap, ◌∙◌}
use mathlib.Core.Bool.{Bool, ◌&&◌, and-true, and-false}
use lib.Dec.{eqb}
use borrow.Author.Rules.{rules}
use Rattle.ring.proofs.WantedLaws.{marks-none, marks-one}
use Rattle.ring.proofs.around.mark_corner.Goals as goal

pub returns-then-is_wanted : goal.returns-then-is_wanted
returns-then-is_wanted c =
    marks-one c.args.y (search rules) (search rules)
    (λ u. ap (λ (t : Bool). eqb u c.args.y && t) (sym c.is_wanted.ensures ∙ c.if-is_wanted.true) ∙ and-true (eqb u c.args.y))
    c.set_mark.ensures

pub returns-else-is_wanted : goal.returns-else-is_wanted
returns-else-is_wanted c =
    marks-none (λ u. ap (λ (t : Bool). eqb u c.args.y && t) (sym c.is_wanted.ensures ∙ c.if-is_wanted.false) ∙ and-false (eqb u c.args.y))
