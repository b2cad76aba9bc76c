-- `folding::try_fold` meets its contract: listing the faces leaves the mesh, the test leaves the memory, and what it says decides.
-- Assumes nothing.
use mathlib.Core.Path.{ap₂, ◌∙◌}
use Rattle.std.proofs.lemmas.Result.{err_from_is_err_and}
use Rattle.geometry.specs.Quadrics.{quadric_sum}
use Rattle.folding.proofs.TriedLaws.{listed-tidy, listed-around, fold-made, fold-refused}
use Rattle.folding.proofs.try_fold.Goals as goal

pub gather-ring-requires : goal.gather-ring-requires
gather-ring-requires c = record { fact_1 = c.requires.fact_1; fact_2 = (c.requires.fact_2.0, c.requires.fact_2.1) }

pub tested-requires : goal.tested-requires
tested-requires c =
    let around = listed-around c.args.fold c.requires.fact_1 c.requires.fact_2 c.gather-ring.ensures in
    record { fact_1 = listed-tidy c.args.fold c.requires.fact_1 c.requires.fact_2 c.gather-ring.ensures; fact_2 = c.requires.fact_3.0; fact_3 = around.0; fact_4 = around.1 }

pub fold_mesh-requires : goal.fold_mesh-requires
fold_mesh-requires c =
    rw c.tested.ensures.w_unchanged (record { fact_1 = listed-tidy c.args.fold c.requires.fact_1 c.requires.fact_2 c.gather-ring.ensures; fact_2 = c.requires.fact_2; fact_3 = c.gather-ring.ensures.ringed.around_keep; fact_4 = c.gather-ring.ensures.ringed.around_remove; fact_5 = (c.gather-ring.ensures.ringed.past_pairs, c.gather-ring.ensures.ringed.one_after_other, c.gather-ring.ensures.ringed.within, c.requires.fact_3.0, c.requires.fact_3.1); sum_value = c.sum-sum.ensures ∙ ap₂ quadric_sum c.quadric_at.ensures c.quadric_at-2.ensures })

pub returns : goal.returns
returns c = λ limit bound there.
    fold-made c.args.fold c.requires.fact_1 c.requires.fact_2 c.gather-ring.ensures c.args.p.now c.args.q.now limit bound there c.tested.ensures.value c.in_ok-tested.was
    (rw c.tested.ensures.w_unchanged at c.fold_mesh.ensures)

pub returns-in_err-tested : goal.returns-in_err-tested
returns-in_err-tested c =
    let passed = err_from_is_err_and c.from_residual.result c.from_residual.ensures.1 in
    rw (passed.1, passed.2) (λ limit bound there.
    fold-refused c.args.fold c.requires.fact_1 c.requires.fact_2 c.gather-ring.ensures c.args.p.now c.args.q.now limit bound there c.tested.ensures.value c.in_err-tested.was c.tested.ensures.w_unchanged)
