-- `ring::common::counts` meets its contract: one of the two and an unmarked point are passed over, any other is counted once.
-- Assumes nothing.
use mathlib.Core.Path.{sym, ◌∙◌}
use Rattle.ring.proofs.CommonLaws.{counted-either, counted-unmarked, counted-one}
use Rattle.ring.proofs.common.counts.Goals as goal

pub returns-then-keep-x : goal.returns-then-keep-x
returns-then-keep-x c = counted-either _ _ c.if-keep-x.true

pub returns-then-mark_at-eq0 : goal.returns-then-mark_at-eq0
returns-then-mark_at-eq0 c = counted-unmarked _ _ (sym c.mark_at.ensures ∙ c.if-mark_at-eq0.true)

pub returns : goal.returns
returns c =
    counted-one _ c.requires.within c.if-keep-x.false (λ e. c.if-mark_at-eq0.false (c.mark_at.ensures ∙ e))
    c.clear_mark.ensures
