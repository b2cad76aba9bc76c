-- `plainwalk::plain_step` meets its contract: at the end nothing is done, and else the answer is that of the least open pair.
-- Assumes nothing.
use native.Mathlib.Omega.{arith}
use Rattle.plainwalk.proofs.MemoryLaws.{open-named, open-few}
use Rattle.plainwalk.proofs.AnswerLaws.{at_target, none_open, least_step}
use Rattle.plainwalk.proofs.plain_step.Goals as goal

pub returns-then-live-target : goal.returns-then-live-target
returns-then-live-target c =
    at_target c.requires c.args.target c.args.bounds.limit c.args.bounds.size (omega (arith, c.if-live-target.true))

pub returns-then-open-eq0 : goal.returns-then-open-eq0
returns-then-open-eq0 c =
    none_open c.requires c.args.target c.args.bounds.limit c.args.bounds.size c.if-open-eq0.true

pub least_pair-least-requires : goal.least_pair-least-requires
least_pair-least-requires c =
    record { fact_1 = omega (arith, c.if-open-eq0.false); fact_2 = open-few c.requires; fact_3 = c.requires.tidy.room; fact_4 = open-named c.requires; fact_5 = c.requires.points_long; fact_6 = c.requires.quadrics_long }

pub try_pair-requires : goal.try_pair-requires
try_pair-requires c =
    record { fact_1 = c.requires; fact_2 = record { within = c.least_pair-least.ensures.within; pair_unchanged = c.least_pair-least.ensures.pair_unchanged; place = c.least_pair-least.ensures.place } }

pub returns : goal.returns
returns c =
    least_step c.requires c.args.target c.args.bounds.limit c.args.bounds.size (omega (arith, c.if-live-target.false)) c.least_pair-least.result
    c.least_pair-least.ensures c.try_pair.ensures
