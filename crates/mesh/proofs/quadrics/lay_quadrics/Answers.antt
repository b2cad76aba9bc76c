-- `mesh::quadrics::lay_quadrics` meets its contract. The loop's invariant: each quadric is what the first `k` faces have added up to.
-- Assumes nothing.
use native.Mathlib.Omega.{arith}
use mathlib.Core.Path.{◌≡◌}
use Rattle.walk.proofs.FaceLaws.{Corners, corners}
use Rattle.mesh.proofs.QuadricLaws.{quadrics-start, quadrics-turn, quadrics-then}
use Rattle.mesh.proofs.quadrics.lay_quadrics.Goals as goal
use Rattle.mesh.proofs.quadrics.lay_quadrics.Goals.{After-face_in-face}

-- the face that was read has its points among the v
face-corners : (c : After-face_in-face) → Corners c.args.extent.v c.face_in-face.result
face-corners c =
    corners _ _ (rw c.face_in-face.ensures (c.requires.fact_2 c.loop-k.k c.loop-k-test.true))

pub loop-k-init : goal.loop-k-init
loop-k-init c =
    (omega arith, quadrics-start c.args.w.now c.args.p.now c.start_quadrics.ensures)

pub face_quadric-requires : goal.face_quadric-requires
face_quadric-requires c = let k = face-corners (goal.at.face_quadric-requires c).After-face_in-face in omega arith

pub add_face-requires : goal.add_face-requires
add_face-requires c = let k = face-corners (goal.at.add_face-requires c).After-face_in-face in omega arith

pub loop-k-preserved : goal.loop-k-preserved
loop-k-preserved c = (
  omega arith,
  quadrics-turn c.args.w.now c.args.p.now c.loop-k.k
      (c.requires.fact_2 c.loop-k.k c.loop-k-test.true)
      (omega arith) c.loop-k.invariant.1 c.face_in-face.ensures c.face_quadric.ensures c.add_face.ensures,
)

pub returns : goal.returns
returns c =
    let done : c.args.extent.f ≡ c.loop-k.k = omega arith in
    quadrics-then c.start_quadrics.ensures (rw done c.loop-k.invariant.1)
