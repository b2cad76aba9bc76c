-- `folding::steps::relist_face` meets its contract: the flag decides which of the two cases of `relisted` it is.
-- Assumes nothing.
use native.Mathlib.Omega.{arith}
use mathlib.Core.Path.{◌≡◌, sym, ◌∙◌}
use mathlib.Core.Bool.{true, false}
use Rattle.memory.specs.Memory.{lives}
use Rattle.folding.specs.Clauses.Steps.{relisted}
use Rattle.folding.proofs.CornerLaws.{corner-slot}
use Rattle.folding.proofs.steps.relist_face.Goals as goal

pub move_corner-requires : goal.move_corner-requires
move_corner-requires c =
    omega (arith, corner-slot c.args.w.now c.args.k c.args.old)

pub returns-then-is_live : goal.returns-then-is_live
unfolding relisted
returns-then-is_live c =
    let alive : lives c.args.f c.args.w.now c.args.k ≡ true = sym c.is_live.ensures ∙ c.if-is_live.true in
    c.move_corner.ensures ∙ rw (alive, c.corner_of-c.ensures)

pub returns-else-is_live : goal.returns-else-is_live
unfolding relisted
returns-else-is_live c =
    let dead : lives c.args.f c.args.w.now c.args.k ≡ false = sym c.is_live.ensures ∙ c.if-is_live.false in
    rw dead
