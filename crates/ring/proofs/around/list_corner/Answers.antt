-- `ring::around::list_corner` meets its contract: nothing is done, or a mark is taken off and its point listed; each is one law.
-- Assumes nothing.
use mathlib.Core.Path.{sym, ◌∙◌}
use Rattle.ring.proofs.TakeLaws.{Unmark, taken-unmarked, taken-one}
use Rattle.ring.proofs.around.list_corner.Goals as goal
use Rattle.ring.proofs.around.list_corner.Goals.{After-clear_mark}

-- past the test the mark is taken off
unmark : (c : After-clear_mark) →
    Unmark c.args.extent.v c.args.extent.f c.args.w.now c.args.n c.args.y c.clear_mark.new.w
unmark c =
    record {
      ready = c.requires.fact_1;
      within = c.requires.fact_2;
      was = λ e. c.if-mark_at-eq0.false (c.mark_at.ensures ∙ e);
      written = c.clear_mark.ensures;
    }

pub returns-then-mark_at-eq0 : goal.returns-then-mark_at-eq0
returns-then-mark_at-eq0 c =
    taken-unmarked c.args.y (sym c.mark_at.ensures ∙ c.if-mark_at-eq0.true)

pub returns : goal.returns
returns c =
    taken-one (unmark (goal.at.returns c).After-clear_mark) c.set_around.ensures
