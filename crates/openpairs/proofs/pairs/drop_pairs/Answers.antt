-- `openpairs::pairs::drop_pairs` meets its contract. The loop's invariant is `Dropping`; each arm of the test is one law of it.
-- The measure is how many pairs are left to look at. Assumes nothing.
use borrow.Author.Rules.{rules}
use mathlib.Core.Path.{◌≡◌, sym, ◌∙◌}
use Rattle.walk.specs.Pairs.{pair_of}
use Rattle.walk.proofs.SamePairs.{pair_path}
use Rattle.memory.specs.Entries.{pair_at}
use Rattle.openpairs.proofs.DropLaws.{dropping-none, dropping-kept, dropping-gone, dropping-all}
use Rattle.openpairs.proofs.pairs.drop_pairs.Goals as goal
use Rattle.openpairs.proofs.pairs.drop_pairs.Goals.{After-is_apart, then-is_apart, else-is_apart}

-- it is the one in its place
here : (c : After-is_apart) →
    (pair_of c.keep_at-first.result c.remove_at-second.result) ≡ pair_at c.args.extent.v c.args.extent.f c.loop-i.w c.loop-i.i
here c = pair_path c.keep_at-first.ensures c.remove_at-second.ensures

pub loop-i-init : goal.loop-i-init
loop-i-init c = (search rules, dropping-none _ _ _ _ _)

pub loop-i-preserved : goal.loop-i-preserved
loop-i-preserved c =
    let looked_at = pair_of c.keep_at-first.result c.remove_at-second.result in
    let in_place = here (goal.at.loop-i-preserved c).After-is_apart in (
      search rules,
      elim c.if-is_apart.branch [
        | then-is_apart w ↦ rw (w.w-is, w.kept-is) (dropping-kept c.loop-i.invariant.1 (search rules) looked_at in_place (search rules) (sym c.is_apart.ensures ∙ w.if-is_apart.true) w.set_pair.ensures)
        | else-is_apart w ↦ rw (w.w-is, w.kept-is) (dropping-gone c.loop-i.invariant.1 (search rules) looked_at in_place (sym c.is_apart.ensures ∙ w.if-is_apart.false))
      ],
    )

pub returns : goal.returns
returns c = dropping-all (search rules) c.loop-i.invariant.1
