-- `listing::put_float` meets its contract, one part after another. Assumes nothing.
use mathlib.Core.Path.{sym}
use Rattle.lists.proofs.PutLaws.{both}
use Rattle.listing.proofs.put_float.Goals as goal

pub returns : goal.returns
returns c =
    rw (sym c.bits_of_f32.ensures) (both c.put_hexadecimal-next.ensures c.put_byte.ensures)
