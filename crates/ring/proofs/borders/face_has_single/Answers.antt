-- `ring::borders::face_has_single` meets its contract: the three points of the face are tried one after another.
-- Assumes nothing.
use native.Mathlib.Omega.{arith}
use Rattle.ring.specs.Clauses.Marking.{single}
use Rattle.walk.proofs.FaceLaws.{Corners}
use Rattle.ring.proofs.MarkLaws.{corners-read}
use Rattle.ring.proofs.BorderLaws.{first_passes, second-passes, third-decides}
use Rattle.ring.proofs.borders.face_has_single.Goals as goal
use Rattle.ring.proofs.borders.face_has_single.Goals.{After-face_in-p}

-- the corners of the face that was read
points : (c : After-face_in-p) → Corners c.args.extent.v c.face_in-p.result
points c = corners-read _ c.face_in-p.ensures c.requires.fact_3

pub is_single-requires : goal.is_single-requires
is_single-requires c = omega (arith, points (goal.at.is_single-requires c).After-face_in-p)

pub returns-then-is_single : goal.returns-then-is_single
returns-then-is_single c =
    first_passes ((single c.args.extent.v c.args.extent.f c.args.w.now c.args.x)) c.face_in-p.ensures c.is_single.ensures c.if-is_single.true

pub is_single-requires-2 : goal.is_single-requires-2
is_single-requires-2 c = omega (arith, points (goal.at.is_single-requires-2 c).After-face_in-p)

pub returns-then-is_single-2 : goal.returns-then-is_single-2
returns-then-is_single-2 c =
    second-passes ((single c.args.extent.v c.args.extent.f c.args.w.now c.args.x)) c.face_in-p.ensures c.is_single.ensures c.if-is_single.false
    c.is_single-2.ensures c.if-is_single-2.true

pub is_single-requires-3 : goal.is_single-requires-3
is_single-requires-3 c = omega (arith, points (goal.at.is_single-requires-3 c).After-face_in-p)

pub returns : goal.returns
returns c =
    third-decides ((single c.args.extent.v c.args.extent.f c.args.w.now c.args.x)) c.face_in-p.ensures c.is_single.ensures c.if-is_single.false
    c.is_single-2.ensures c.if-is_single-2.false c.is_single-3.ensures
