-- `heapwalk::try_pair` meets its contract: a fold that is made is followed by stamps and entries, and a pair that isn't allowed is closed.
-- Assumes nothing.
use native.Mathlib.Omega.{arith}
use Rattle.std.specs.Prelude.{Ok}
use Rattle.folding.specs.Clauses.Folds.{FoldTried}
use Rattle.folding.proofs.TriedLaws.{tried-as}
use Rattle.heapwalk.proofs.MemoryLaws.{pair-points, pair-differ}
use Rattle.heapwalk.proofs.TriedLaws.{made-live, keep-rises, remove-rises, made-open, made-done, refused-done}
use Rattle.heapwalk.proofs.try_pair.Goals as goal
use Rattle.heapwalk.proofs.try_pair.Goals.{In-Ok}

-- what the fold came to
made : (c : In-Ok) → FoldTried c.args.extent.v c.args.extent.f c.args.bounds.limit c.args.bounds.size c.args.w.now c.args.p.now c.args.q.now c.args.fold.keep c.args.fold.remove
    c.try_fold.new.w c.try_fold.new.p c.try_fold.new.q (Ok c.in-Ok.gone)
made c =
    tried-as c.in-Ok.is (c.try_fold.ensures c.args.bounds.limit c.args.bounds.size c.requires.same_place)

pub try_fold-requires : goal.try_fold-requires
try_fold-requires c =
    record { fact_1 = c.requires.held.«open».tidy; fact_2 = ((pair-points c.requires).0, (pair-points c.requires).1, pair-differ c.requires); fact_3 = (omega (arith, c.requires.held.«open».queue.enough.places_long), omega (arith, c.requires.held.«open».queue.enough.costs_long)) }

pub overflow_cast-keep : goal.overflow_cast-keep
overflow_cast-keep c = omega (arith, (keep-rises c.requires (made (goal.at.overflow_cast-keep c).In-Ok)).0)

pub bump-requires : goal.bump-requires
bump-requires c =
    let rises = keep-rises c.requires (made (goal.at.bump-requires c).In-Ok) in
    record { fact_1 = rises.0; fact_2 = rises.1; fact_3 = rises.2 }

pub overflow_cast-remove : goal.overflow_cast-remove
overflow_cast-remove c = omega (arith, (pair-points c.requires).1)

pub bump-requires-in-Ok : goal.bump-requires-in-Ok
bump-requires-in-Ok c =
    let rises = remove-rises c.requires (made (goal.at.bump-requires-in-Ok c).In-Ok) c.bump.ensures in
    record { fact_1 = rises.0; fact_2 = rises.1; fact_3 = rises.2 }

pub enter_around-more-requires : goal.enter_around-more-requires
enter_around-more-requires c =
    let asked = made-open c.requires (made (goal.at.enter_around-more-requires c).In-Ok) c.bump.ensures c.bump-in-Ok.ensures in
    record { fact_1 = asked.0; fact_2 = (pair-points c.requires).0; room = asked.1 }

pub overflow_sub-left : goal.overflow_sub-left
overflow_sub-left c = omega (arith, made-live c.requires (made (goal.at.overflow_sub-left c).In-Ok))

pub returns-in-Ok : goal.returns-in-Ok
returns-in-Ok c =
    made-done c.requires (made (goal.at.returns-in-Ok c).In-Ok) c.bump.ensures c.bump-in-Ok.ensures
    c.enter_around-more.ensures

pub returns-in-Err : goal.returns-in-Err
returns-in-Err c =
    refused-done c.requires
    (tried-as c.in-Err.is (c.try_fold.ensures c.args.bounds.limit c.args.bounds.size c.requires.same_place))
