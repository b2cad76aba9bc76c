-- `mesh::links::collect` meets its contract. The loop's invariant: what is listed and what is ahead is what is around the point.
-- The measure is the number of corners ahead. Assumes nothing.
use Prim.Native.Nat.{◌*◌}
use Rattle.mesh.proofs.WalkLaws.{Walk, steps}
use Rattle.mesh.proofs.links.collect.Given as goal

abbrev pub invariant-loop-link : goal.invariant-loop-link
invariant-loop-link l = Walk l.extent.v l.extent.f l.initial.w l.x l.base l.w l.n l.link

abbrev pub decreases-loop-link : goal.decreases-loop-link
decreases-loop-link l = steps l.extent.f l.initial.w (3 * l.extent.f) l.link
