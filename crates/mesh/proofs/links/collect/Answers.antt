-- `mesh::links::collect` meets its contract. The loop's invariant: what is listed and what is ahead is what is around the point.
-- The measure is the number of corners ahead. Assumes nothing.
use Prim.Native.Nat.{◌-◌, ◌*◌, ◌<◌}
use native.Mathlib.Omega.{arith}
use Rattle.mesh.proofs.WalkLaws.{start, inside, less, passed, some-room, noted, collected}
use Rattle.mesh.proofs.links.collect.Goals as goal
use Rattle.mesh.proofs.links.collect.Goals.{In-loop-link, Then-is_live}

-- the link names a corner
corner-inside : (c : In-loop-link) → c.loop-link.link - 1 < 3 * c.args.extent.f
corner-inside c = inside (omega arith) c.loop-link-test.true c.loop-link.invariant

-- where the corner's face is live there is room for it
room-left : (c : Then-is_live) →
    c.loop-link.n < c.args.extent.f
room-left c =
    some-room (omega arith) c.loop-link-test.true c.loop-link.invariant
    c.next_at-link.ensures c.is_live.ensures c.if-is_live.true

pub loop-link-init : goal.loop-link-init
loop-link-init c = start _ c.first_at-link.ensures c.requires.fact_1 c.requires.fact_2

pub next_at-link-requires : goal.next_at-link-requires
next_at-link-requires c = omega (arith, corner-inside (goal.at.next_at-link-requires c).In-loop-link)

pub is_live-requires : goal.is_live-requires
is_live-requires c = omega (arith, corner-inside (goal.at.is_live-requires c).In-loop-link)

pub overflow_cast-w : goal.overflow_cast-w
overflow_cast-w c = omega (arith, corner-inside (goal.at.overflow_cast-w c).In-loop-link)

pub overflow_add-w : goal.overflow_add-w
overflow_add-w c = omega (arith, room-left (goal.at.overflow_add-w c).Then-is_live)

pub offset_bounds-w-base : goal.offset_bounds-w-base
offset_bounds-w-base c = omega (arith, room-left (goal.at.offset_bounds-w-base c).Then-is_live)

pub bounds-w-base : goal.bounds-w-base
bounds-w-base c = omega (arith, room-left (goal.at.bounds-w-base c).Then-is_live)

pub overflow_add-n : goal.overflow_add-n
overflow_add-n c = omega (arith, room-left (goal.at.overflow_add-n c).Then-is_live)

pub loop-link-smaller-then-is_live : goal.loop-link-smaller-then-is_live
loop-link-smaller-then-is_live c = less (omega arith) c.loop-link-test.true c.loop-link.invariant c.next_at-link.ensures

pub loop-link-preserved-then-is_live : goal.loop-link-preserved-then-is_live
loop-link-preserved-then-is_live c =
    noted (omega arith) c.loop-link-test.true c.loop-link.invariant
    c.next_at-link.ensures c.is_live.ensures c.if-is_live.true (omega arith)

pub loop-link-smaller : goal.loop-link-smaller
loop-link-smaller c = less (omega arith) c.loop-link-test.true c.loop-link.invariant c.next_at-link.ensures

pub loop-link-preserved : goal.loop-link-preserved
loop-link-preserved c =
    passed (omega arith) c.loop-link-test.true c.loop-link.invariant
    c.next_at-link.ensures c.is_live.ensures c.if-is_live.false

pub returns : goal.returns
returns c = collected (omega arith) c.loop-link-test.false c.loop-link.invariant
