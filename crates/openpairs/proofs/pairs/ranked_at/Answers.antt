-- `openpairs::pairs::ranked_at` meets its contract: each part is what the function that gave it ensures.
-- Assumes nothing.
use mathlib.Core.Path.{ap, ◌∙◌}
use Rattle.placement.specs.Pairs.{pair_cost}
use Rattle.openpairs.proofs.LeastLaws.{ranked-is}
use Rattle.openpairs.proofs.pairs.ranked_at.Goals as goal

pub returns : goal.returns
returns c =
    ranked-is c.args.extent.v c.args.extent.f c.args.w.now c.args.p.now c.args.q.now c.args.bounds.size c.args.i c.keep_at-keep.ensures c.remove_at-remove.ensures
    (c.pair_cost-cost.ensures ∙ ap (λ ends. pair_cost c.args.bounds.size ends.0 ends.1) c.ends_at.ensures)
