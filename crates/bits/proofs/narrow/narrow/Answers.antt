-- `bits::narrow::narrow` meets its contract: what is read from the narrowed pattern is the narrowed value. Assumes nothing.
use Rattle.std.proofs.Common.{T, sym, subst}
use Rattle.bits.proofs.NarrowLaws.{narrowed-is}
use Rattle.bits.proofs.narrow.narrow.Goals as goal

pub returns : goal.returns
returns c =
    rw (c.f32_of.ensures, c.narrow_bits.ensures, c.bits_of_f64.ensures)
    (narrowed-is c.args.x (subst T (sym c.well_formed.0.1) tt))
