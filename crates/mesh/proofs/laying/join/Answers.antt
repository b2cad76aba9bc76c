-- `mesh::laying::join` meets its contract. The loop's invariant: the corners from `c` on are in their chains.
-- Assumes nothing.
use native.Mathlib.Omega.{arith}
use Rattle.mesh.proofs.JoinLaws.{join-start, join-point, join-turn, join-end}
use Rattle.mesh.proofs.laying.join.Goals as goal

pub loop-c-init : goal.loop-c-init
loop-c-init c = join-start c.requires.fact_3

pub push_corner-requires : goal.push_corner-requires
push_corner-requires c =
    omega (arith, join-point c.requires.fact_1 c.requires.fact_2 (omega arith) c.loop-c.invariant)

pub loop-c-preserved : goal.loop-c-preserved
loop-c-preserved c =
    join-turn c.requires.fact_1 c.requires.fact_2 (omega arith) c.loop-c.invariant
    c.corner_at-x.ensures c.push_corner.ensures

pub returns : goal.returns
returns c = join-end (omega arith) c.loop-c.invariant
