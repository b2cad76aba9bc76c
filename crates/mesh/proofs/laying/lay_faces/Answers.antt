-- `mesh::laying::lay_faces` meets its contract: what linking the corners asks, and the whole, follow from what each step leaves.
-- Assumes nothing.
use Prim.Native.Nat.{◌*◌}
use lib.ListN.{get_or}
use Rattle.lists.specs.Frames.{Written}
use native.Mathlib.Omega.{arith}
use Rattle.lists.proofs.WrittenLaws.{written_from, copy_written}
use Rattle.mesh.proofs.LayLaws.{joinable, laid}
use Rattle.mesh.proofs.laying.lay_faces.Goals as goal
use Rattle.mesh.proofs.laying.lay_faces.Goals.{After-copy}

-- the faces stand in the first cells
copied-faces : (c : After-copy) → Written 0 (3 * c.args.extent.f) (λ i. get_or c.args.faces.now i 0) c.args.w.now c.copy.new.out
copied-faces c = copy_written c.args.faces.now c.requires.fact_2 (omega (arith, c.requires.fact_1.long)) c.copy.ensures

-- ---- the needs
pub fill-requires : goal.fill-requires
fill-requires c = rw c.lives_from.ensures (omega arith)

pub fill-requires-2 : goal.fill-requires-2
fill-requires-2 c = rw c.firsts_from.ensures (omega arith)

pub join-requires : goal.join-requires
join-requires c = let held = joinable c.args.faces.now c.requires.fact_1 c.requires.fact_3 (copied-faces (goal.at.join-requires c).After-copy)
    (written_from c.lives_from.ensures c.fill.ensures)
    (written_from c.firsts_from.ensures c.fill-2.ensures) in
    record { fact_1 = held.0; fact_2 = held.1.0; fact_3 = held.1.1 }

pub returns : goal.returns
returns c =
    laid c.args.faces.now c.requires.fact_1 c.requires.fact_3 (copied-faces (goal.at.returns c).After-copy)
    (written_from c.lives_from.ensures c.fill.ensures)
    (written_from c.firsts_from.ensures c.fill-2.ensures) c.join.ensures
