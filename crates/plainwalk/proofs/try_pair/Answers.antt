-- `plainwalk::try_pair` meets its contract: a fold that is made is followed by the open pairs, and a pair that isn't allowed is closed.
-- Assumes nothing.
use native.Mathlib.Omega.{arith}
use Rattle.std.specs.Prelude.{Ok, Err}
use Rattle.folding.specs.Clauses.Folds.{FoldTried}
use Rattle.folding.proofs.TriedLaws.{tried-as}
use Rattle.plainwalk.proofs.AnswerLaws.{found-points}
use Rattle.plainwalk.proofs.TriedLaws.{found-two, made-live, made-few, made-open, made-done, refused-few, refused-done}
use Rattle.plainwalk.proofs.try_pair.Goals as goal
use Rattle.plainwalk.proofs.try_pair.Goals.{In-Ok, In-Err}

-- what it came to
made : (c : In-Ok) → FoldTried c.args.extent.v c.args.extent.f c.args.bounds.limit c.args.bounds.size c.args.w.now c.args.p.now c.args.q.now c.args.least.fold.keep c.args.least.fold.remove
    c.try_fold.new.w c.try_fold.new.p c.try_fold.new.q (Ok c.in-Ok.gone)
made c =
    tried-as c.in-Ok.is (c.try_fold.ensures c.args.bounds.limit c.args.bounds.size c.requires.fact_2.place)

refused : (c : In-Err) → FoldTried c.args.extent.v c.args.extent.f c.args.bounds.limit c.args.bounds.size c.args.w.now c.args.p.now c.args.q.now c.args.least.fold.keep c.args.least.fold.remove
    c.try_fold.new.w c.try_fold.new.p c.try_fold.new.q (Err c.in-Err.reason)
refused c =
    tried-as c.in-Err.is (c.try_fold.ensures c.args.bounds.limit c.args.bounds.size c.requires.fact_2.place)

pub try_fold-requires : goal.try_fold-requires
try_fold-requires c =
    record { fact_1 = c.requires.fact_1.tidy; fact_2 = found-two c.requires.fact_1 c.requires.fact_2; fact_3 = (c.requires.fact_1.points_long, c.requires.fact_1.quadrics_long) }

pub drop_pairs-kept-requires : goal.drop_pairs-kept-requires
drop_pairs-kept-requires c =
    let few = made-few c.requires.fact_1 c.requires.fact_2 (made (goal.at.drop_pairs-kept-requires c).In-Ok) in
    record { fact_1 = few.0; fact_2 = few.1 }

pub open_neighbours-opened-requires : goal.open_neighbours-opened-requires
open_neighbours-opened-requires c =
    let asked = made-open c.requires.fact_1 c.requires.fact_2 (made (goal.at.open_neighbours-opened-requires c).In-Ok) c.drop_pairs-kept.ensures in
    record {
      tidy = (asked.0, ((found-points c.requires.fact_1 c.requires.fact_2).0, (asked.1, asked.2)));
      room = asked.3;
    }

pub overflow_sub-left : goal.overflow_sub-left
overflow_sub-left c =
    omega (arith, made-live c.requires.fact_1 c.requires.fact_2 (made (goal.at.overflow_sub-left c).In-Ok))

pub close_pair-still_open-requires : goal.close_pair-still_open-requires
close_pair-still_open-requires c =
    let few = refused-few c.requires.fact_1 c.requires.fact_2 (refused (goal.at.close_pair-still_open-requires c).In-Err) in
    record { fact_1 = few.0; fact_2 = few.1; fact_3 = few.2 }

pub returns-in-Ok : goal.returns-in-Ok
returns-in-Ok c =
    made-done c.requires.fact_1 c.requires.fact_2 (made (goal.at.returns-in-Ok c).In-Ok) c.drop_pairs-kept.ensures c.open_neighbours-opened.ensures

pub returns-in-Err : goal.returns-in-Err
returns-in-Err c =
    refused-done c.requires.fact_1 c.requires.fact_2 (refused (goal.at.returns-in-Err c).In-Err) c.close_pair-still_open.ensures
