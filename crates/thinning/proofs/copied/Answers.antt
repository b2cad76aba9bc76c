-- `thinning::copied` meets its contract: the mesh is copied and the work memory cleared.
-- Assumes nothing.
use Rattle.walk.proofs.ClosingLaws.{default-closed}
use Rattle.walking.proofs.FitLaws.{points_fit, few-fits}
use Rattle.thinning.proofs.copied.Goals as goal

pub clear-requires : goal.clear-requires
clear-requires c = c.requires.working

pub overflow_cast-result : goal.overflow_cast-result
overflow_cast-result c = points_fit c.requires.working.u32s.points_few

pub overflow_cast-result-2 : goal.overflow_cast-result-2
overflow_cast-result-2 c = few-fits c.requires.working.u32s.faces_few

pub returns : goal.returns
returns c =
    record {
      answered = rw (default-closed {closed = c.default.result} c.default.ensures);
      points_written = c.copy_mesh.ensures.points;
      faces_written = c.copy_mesh.ensures.faces;
      u32s_left = c.clear.ensures.u32s;
      f32s_left = c.clear.ensures.f32s;
      f64s_left = c.clear.ensures.f64s;
    }
