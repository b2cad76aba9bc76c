-- `checks::check_coordinates` meets its contract, by the place that `first_bad` found.
-- Assumes nothing.
use native.Mathlib.Omega.{arith}
use Rattle.meaning.specs.Answers.{bad_coordinate}
use Rattle.checks.proofs.SearchLaws.{position-is}
use Rattle.checks.proofs.check_coordinates.Goals as goal

pub returns-in-Some : goal.returns-in-Some
returns-in-Some c = let found = position-is (bad_coordinate c.args.bound) c.args.points.now in grind arith

pub returns-in-None : goal.returns-in-None
returns-in-None c = let found = position-is (bad_coordinate c.args.bound) c.args.points.now in grind arith
