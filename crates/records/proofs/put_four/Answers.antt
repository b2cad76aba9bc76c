-- `records::put_four` meets its contract. Assumes nothing.
use Prim.Native.Nat.{◌+◌, ◌-◌}
use native.Mathlib.Omega.{arith}
use mathlib.Core.Path.{◌≡◌, refl, ◌∙◌}
use Rattle.records.proofs.WordLaws.{four-written, part-put}
use Rattle.records.proofs.put_four.Goals as goal

pub returns : goal.returns
returns c =
    let long : c.args.at + 4 - c.args.at ≡ 4 = omega arith in
    rw long (part-put (c.copy_from_slice.ensures.after ∙ c.to_le_bytes.ensures ∙ four-written _ c.ranges.n.fits) refl (omega arith))
