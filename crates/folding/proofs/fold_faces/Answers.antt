-- `folding::fold_faces` meets its contract: what the steps leave, one after another, by the laws of FoldedLaws.
-- Assumes nothing.
use Prim.Native.Nat.{◌+◌, ◌/◌, ◌≤◌}
use native.Mathlib.Omega.{arith}
use mathlib.Core.Bool.{◌&&◌}
use lib.Dec.{eqb}
use lib.ListN.{length}
use Rattle.memory.specs.Layout.{kinds_from}
use Rattle.memory.specs.Memory.{corner, lives}
use Rattle.lists.proofs.FrameLaws.{but-then}
use Rattle.folding.proofs.RelistLaws.{Relisted}
use Rattle.folding.proofs.FoldedLaws.{Dropped, dropped, gathered-inside, may-relist, near_again, far-again, folded}
use Rattle.folding.proofs.fold_faces.Goals as goal
use Rattle.folding.proofs.fold_faces.Goals.{After-relist, After-set_first-2, Start}

-- ---- what the steps leave
-- each list stands above the cells that change, and within the memory
near-stands : (c : Start) →
    (kinds_from c.args.extent.v c.args.extent.f ≤ c.args.ring.near) × (c.args.ring.near + c.args.extent.f ≤ length c.args.w.now)
near-stands c = omega arith

far-stands : (c : Start) →
    (kinds_from c.args.extent.v c.args.extent.f ≤ c.args.ring.far) × (c.args.ring.far + c.args.extent.f ≤ length c.args.w.now)
far-stands c = omega arith

-- the faces that hold both are dead, and the chains of both points are dropped
both-dropped : (c : After-set_first-2) →
    Dropped c.args.extent.v c.args.extent.f c.args.w.now c.args.keep c.args.remove c.requires.fact_1.listed c.set_first-2.new.w
both-dropped c =
    dropped c.requires.fact_1 c.requires.fact_2.0 c.requires.fact_2.1 c.requires.fact_3 c.kill-gone.ensures.0 c.set_first.ensures
    c.set_first-2.ensures

-- keep's faces are listed again
near-listed : (c : After-relist) →
    Relisted c.args.extent.v c.args.extent.f c.args.keep (λ d. lives c.args.extent.f c.set_first-2.new.w (d / 3) && eqb (corner c.args.w.now d) c.args.keep) c.set_first-2.new.w c.relist.new.w
near-listed c =
    near_again c.requires.fact_1 c.requires.fact_2.0 (both-dropped c.before.before.before.before) c.requires.fact_3 (near-stands c.before.before.before.before.before.before.before.before.before.before.before.before.before.before.before).0 c.relist.ensures

-- ---- the needs
pub kill-gone-requires : goal.kill-gone-requires
kill-gone-requires c = record { fact_1 = gathered-inside c.requires.fact_3; fact_2 = (omega arith, omega arith) }

pub relist-requires : goal.relist-requires
relist-requires c = let held = may-relist c.requires.fact_1.room c.requires.fact_2.0 c.requires.fact_3 (both-dropped (goal.at.relist-requires c).After-set_first-2).but (near-stands (goal.at.relist-requires c).Start).0 (near-stands (goal.at.relist-requires c).Start).1 in
    record { fact_1 = held.0; fact_2 = held.1 }

pub relist-requires-2 : goal.relist-requires-2
relist-requires-2 c = let held = may-relist c.requires.fact_1.room c.requires.fact_2.0 c.requires.fact_4
    (but-then (both-dropped (goal.at.relist-requires-2 c).After-set_first-2).but (near-listed (goal.at.relist-requires-2 c).After-relist).but) (far-stands (goal.at.relist-requires-2 c).Start).0 (far-stands (goal.at.relist-requires-2 c).Start).1 in
    record { fact_1 = held.0; fact_2 = held.1 }

pub returns : goal.returns
returns c =
    folded c.requires.fact_1 c.requires.fact_2.0 c.requires.fact_2.2 (both-dropped (goal.at.returns c).After-set_first-2) (near-listed (goal.at.returns c).After-relist)
    (far-again c.requires.fact_1 c.requires.fact_2.0 (both-dropped (goal.at.returns c).After-set_first-2) c.requires.fact_4 (far-stands (goal.at.returns c).Start).0 (near-listed (goal.at.returns c).After-relist) c.relist-2.ensures)
    c.requires.fact_3 c.kill-gone.ensures.1
