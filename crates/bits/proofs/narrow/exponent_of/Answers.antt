-- `bits::narrow::exponent_of` meets its contract: the field has eleven bits, so that its difference with 1023 fits an i64, which keeps it
-- (`exponent-fits`, `kept`). Assumes nothing.
use Rattle.std.proofs.Common.{refl, arith, w64}
use mir.ValLaws.{to_z_pos}
use Rattle.bits.specs.Clauses.{field, exponent_for}
use Rattle.bits.proofs.SignedExponent.{exponent-fits, kept}
use Rattle.bits.proofs.narrow.exponent_of.Goals as goal

pub overflow_sub-result : goal.overflow_sub-result
overflow_sub-result c = rw (to_z_pos w64 (field c.args.b) (omega arith)) (exponent-fits c.args.b)

pub returns : goal.returns
returns c = rw (to_z_pos w64 (field c.args.b) (omega arith)) (kept c.args.b (exponent_for (field c.args.b)) refl)
