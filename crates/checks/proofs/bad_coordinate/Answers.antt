-- `checks::bad_coordinate` meets its contract: the tests against the infinities are the definition's `finite`, and the others are its own.
-- Assumes nothing.
use lib.Ieee.{of_bits, div, neg}
use Rattle.checks.proofs.FloatLaws.{between-infinities}
use Rattle.checks.proofs.bad_coordinate.Goals as goal

pub returns : goal.returns
unfolding of_bits div neg
returns c = rw between-infinities
