-- `foldtest::tested_faces` meets its contract: the lowest face that is harmed is told, where there is one.
-- Assumes nothing.
use native.Mathlib.Omega.{arith}
use Rattle.foldtest.proofs.HarmLaws.{face-placed, faces-allow, faces-refuse}
use Rattle.foldtest.proofs.tested_faces.Goals as goal

pub lowest_around-k-requires : goal.lowest_around-k-requires
lowest_around-k-requires c = record { fact_1 = c.requires.fact_1; fact_2 = c.requires.fact_2; fact_3 = c.requires.fact_3; fact_4 = c.requires.fact_4 }

pub face_in-requires : goal.face_in-requires
face_in-requires c =
    (c.if-k-extent.true, omega (arith, c.requires.fact_1.room))

pub tested_face-requires : goal.tested_face-requires
tested_face-requires c =
    face-placed c.args.extent.v c.face_in.ensures
    (c.requires.fact_1.faces_proper _ c.if-k-extent.true (c.lowest_around-k.ensures.found c.if-k-extent.true).0) c.requires.fact_2

pub returns-then-k-extent : goal.returns-then-k-extent
returns-then-k-extent c =
    faces-refuse c.lowest_around-k.ensures c.if-k-extent.true c.face_in.ensures c.tested_face.ensures

pub returns : goal.returns
returns c = faces-allow c.lowest_around-k.ensures c.if-k-extent.false
