-- `foldtest::fair::judged` meets its contract: a face that its squares show to be fair is allowed, one that is squashed is told so, and else the
-- second test decides. Assumes nothing.
use Rattle.foldtest.proofs.FairLaws.{harm-none, judged-squashed, judged-turned, judged-fair}
use Rattle.foldtest.proofs.fair.judged.Goals as goal

pub is_surely_fair-requires : goal.is_surely_fair-requires
is_surely_fair-requires c = tt

pub returns-then-is_surely_fair : goal.returns-then-is_surely_fair
returns-then-is_surely_fair c =
    let fair = c.is_surely_fair.ensures c.if-is_surely_fair.true in
    harm-none c.args.number _ _ fair.0 fair.1

pub norm-b-requires : goal.norm-b-requires
norm-b-requires c = tt

pub norm-a-requires : goal.norm-a-requires
norm-a-requires c = tt

pub is_squashed-requires : goal.is_squashed-requires
is_squashed-requires c = tt

pub returns-then-is_squashed : goal.returns-then-is_squashed
returns-then-is_squashed c =
    judged-squashed c.args.number c.args.before c.args.after c.norm-b.ensures c.norm-a.ensures c.is_squashed.ensures
    c.if-is_squashed.true

pub dot-requires : goal.dot-requires
dot-requires c = tt

pub is_turned-requires : goal.is_turned-requires
is_turned-requires c = tt

pub returns-then-is_turned : goal.returns-then-is_turned
returns-then-is_turned c =
    judged-turned c.args.number c.args.before c.args.after c.norm-b.ensures c.norm-a.ensures c.is_squashed.ensures
    c.if-is_squashed.false c.dot.ensures c.is_turned.ensures c.if-is_turned.true

pub returns : goal.returns
returns c =
    judged-fair c.args.number c.args.before c.args.after c.norm-b.ensures c.norm-a.ensures c.is_squashed.ensures
    c.if-is_squashed.false c.dot.ensures c.is_turned.ensures c.if-is_turned.false
