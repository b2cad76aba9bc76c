-- `walking::walked` meets its contract: the mesh is laid out, walked and its folds listed, and what stands in memory then is the last mesh of the input.
-- Assumes nothing.
use mathlib.Core.Path.{◌≡◌}
use Rattle.meaning.specs.Outcome.{target_of}
use Rattle.walking.specs.Clauses.{input_walked}
use Rattle.walking.proofs.WalkedLaws.{walk-asked, folds_few, mesh-walked}
use Rattle.walking.proofs.walked.Goals as goal
use Rattle.walking.proofs.walked.Goals.{After-laid_out-fixed}

-- the target is document 01's
aim : (c : After-laid_out-fixed) → c.target-target.result ≡ target_of ((input_walked c.args.points.now c.args.faces.now c.args.margin.now c.args.options))
unfolding target_of
aim c = c.target-target.ensures

pub bounds_of-bounds-requires : goal.bounds_of-bounds-requires
bounds_of-bounds-requires c = c.requires.fact_2

pub laid_out-fixed-requires : goal.laid_out-fixed-requires
laid_out-fixed-requires c = c.requires.fact_1

pub walk_by-walked-requires : goal.walk_by-walked-requires
walk_by-walked-requires c =
    walk-asked c.requires.fact_1.working c.laid_out-fixed.ensures

pub list_folds-requires : goal.list_folds-requires
list_folds-requires c =
    let walked = rw c.bounds_of-bounds.ensures at c.walk_by-walked.ensures in
    record { fact_1 = walked.done.tidy.room; fact_2 = folds_few ((input_walked c.args.points.now c.args.faces.now c.args.margin.now c.args.options)) (aim (goal.at.list_folds-requires c).After-laid_out-fixed) c.laid_out-fixed.ensures walked }

pub returns : goal.returns
returns c =
    mesh-walked ((input_walked c.args.points.now c.args.faces.now c.args.margin.now c.args.options)) (aim (goal.at.returns c).After-laid_out-fixed) c.laid_out-fixed.ensures (rw c.bounds_of-bounds.ensures at c.walk_by-walked.ensures) c.args.folds.now c.list_folds.ensures
