-- `output::writing::write_mesh` meets its contract. The loop's invariant: the live faces among the first `k` slots are written.
-- Assumes nothing.
use native.Mathlib.Omega.{arith}
use Rattle.output.proofs.NumberingLaws.{length-points}
use Rattle.output.proofs.SlotLaws.{Turn, turn-none, turn-room, turn-known, turn-proper, turn-fits, turn-live, turn-dead, turn-all}
use Rattle.output.proofs.writing.write_mesh.Goals as goal
use Rattle.output.proofs.writing.write_mesh.Goals.{At-loop-k, In-loop-k, then-is_live, else-is_live}

-- the turn
reading : (c : At-loop-k) →
    Turn c.args.extent.v c.args.extent.f c.args.p.now c.args.w.now c.args.out_points.now c.args.out_faces.now
    c.loop-k.w c.loop-k.out_points c.loop-k.out_faces c.loop-k.counts c.loop-k.k
reading c = c.loop-k.invariant

pub loop-k-init : goal.loop-k-init
loop-k-init c =
    turn-none c.requires.fact_1 c.requires.fact_3 c.requires.fact_4

pub is_live-requires : goal.is_live-requires
is_live-requires c = omega (arith, (turn-room c.loop-k.invariant).long)

pub face_in-face-requires : goal.face_in-face-requires
face_in-face-requires c = (c.loop-k-test.true, omega (arith, (turn-room c.loop-k.invariant).long))

pub write_face-counts-requires : goal.write_face-counts-requires
write_face-counts-requires c =
    let t = reading (goal.at.write_face-counts-requires c).At-loop-k in
    record {
      fact_1 = turn-room t;
      fact_2 = turn-proper t c.loop-k-test.true _ c.is_live.ensures c.if-is_live.true _ c.face_in-face.ensures;
      fact_3 = c.requires.fact_2;
      fact_4 = turn-fits t c.loop-k-test.true _ c.is_live.ensures c.if-is_live.true _ c.face_in-face.ensures;
      fact_5 = turn-known t;
    }

pub loop-k-preserved : goal.loop-k-preserved
loop-k-preserved c =
    elim c.if-is_live.branch [
      | then-is_live w ↦
          rw (w.w-is, w.out_points-is, w.out_faces-is, w.counts-is)
          (turn-live c.loop-k.invariant c.loop-k-test.true _ c.is_live.ensures w.if-is_live.true _ w.face_in-face.ensures w.write_face-counts.ensures)
      | else-is_live w ↦
          rw (w.w-is, w.out_points-is, w.out_faces-is, w.counts-is)
          (turn-dead c.loop-k.invariant c.loop-k-test.true _ c.is_live.ensures w.if-is_live.false)
    ]

pub shape_of-w : goal.shape_of-w
shape_of-w c = c.loop-k.invariant.but.same_length

pub shape_of-out_points : goal.shape_of-out_points
shape_of-out_points c = length-points c.loop-k.invariant.listed.met

pub shape_of-out_faces : goal.shape_of-out_faces
shape_of-out_faces c = c.loop-k.invariant.same_faces

pub returns : goal.returns
returns c = turn-all c.loop-k.invariant c.loop-k-test.false
