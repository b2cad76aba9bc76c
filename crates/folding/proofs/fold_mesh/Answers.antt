-- `folding::fold_mesh` meets its contract: the folded faces and the two stores at keep, by the law of MovedLaws.
-- Assumes nothing.
use native.Mathlib.Omega.{arith}
use mathlib.Core.Path.{ap, ◌∙◌}
use Rattle.memory.specs.Points.{with_quadric}
use Rattle.folding.proofs.MovedLaws.{mesh-folded}
use Rattle.folding.proofs.fold_mesh.Goals as goal

pub set_quadric-requires : goal.set_quadric-requires
set_quadric-requires c =
    omega (arith, c.requires.fact_2.0, c.requires.fact_5.4)

pub fold_faces-requires : goal.fold_faces-requires
fold_faces-requires c =
    record { fact_1 = c.requires.fact_1; fact_2 = c.requires.fact_2; fact_3 = c.requires.fact_3; fact_4 = c.requires.fact_4; fact_5 = (c.requires.fact_5.0, c.requires.fact_5.1, c.requires.fact_5.2) }

pub returns : goal.returns
returns c = λ limit bound placed.
    mesh-folded c.args.p.now c.args.q.now c.requires.fact_2.0 c.requires.fact_2.1 c.requires.fact_5.3 c.requires.fact_5.4 c.fold_faces.ensures
    c.args.fold.place limit bound placed c.set_point.ensures
    (c.set_quadric.ensures ∙ ap (with_quadric c.args.q.now c.args.fold.keep) c.requires.sum_value)
