-- `ring::common::count_face` meets its contract: the three points of the face are counted one after another.
-- Assumes nothing.
use native.Mathlib.Omega.{arith}
use mathlib.Core.Path.{◌∙◌}
use Rattle.walk.proofs.FaceLaws.{Corners}
use Rattle.ring.proofs.MarkLaws.{corners-read}
use Rattle.ring.proofs.CommonLaws.{flag_number, counted-few, face-counted}
use Rattle.ring.proofs.common.count_face.Goals as goal
use Rattle.ring.proofs.common.count_face.Goals.{After-face_in-p}

-- the corners of the face that was read
points : (c : After-face_in-p) → Corners c.args.extent.v c.face_in-p.result
points c = corners-read _ c.face_in-p.ensures c.requires.fact_3

pub counts-a-requires : goal.counts-a-requires
counts-a-requires c = omega (arith, points (goal.at.counts-a-requires c).After-face_in-p)

pub counts-b-requires : goal.counts-b-requires
counts-b-requires c = omega (arith, points (goal.at.counts-b-requires c).After-face_in-p)

pub counts-c-requires : goal.counts-c-requires
counts-c-requires c = omega (arith, points (goal.at.counts-c-requires c).After-face_in-p)

-- the sum of the three counts is at most the number of points
pub overflow_add-result : goal.overflow_add-result
overflow_add-result c =
    omega (
      arith,
      c.from.ensures ∙ flag_number _,
      c.from-2.ensures ∙ flag_number _,
      counted-few (face-counted _ c.face_in-p.ensures c.counts-a.ensures c.counts-b.ensures c.counts-c.ensures),
    )

pub overflow_add-result-2 : goal.overflow_add-result-2
overflow_add-result-2 c =
    omega (
      arith,
      c.from.ensures ∙ flag_number _,
      c.from-2.ensures ∙ flag_number _,
      c.from-3.ensures ∙ flag_number _,
      counted-few (face-counted _ c.face_in-p.ensures c.counts-a.ensures c.counts-b.ensures c.counts-c.ensures),
    )

pub returns : goal.returns
returns c =
    rw (c.from.ensures ∙ flag_number _, c.from-2.ensures ∙ flag_number _, c.from-3.ensures ∙ flag_number _)
    (face-counted _ c.face_in-p.ensures c.counts-a.ensures c.counts-b.ensures c.counts-c.ensures)
