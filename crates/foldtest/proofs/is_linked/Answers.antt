-- `foldtest::is_linked` meets its contract: the faces around keep that hold remove are the shared ones.
-- Assumes nothing.
use mathlib.Core.Path.{refl}
use Rattle.ring.proofs.AroundLaws.{may-count}
use Rattle.foldtest.proofs.LinkLaws.{not-linked, link-decided}
use Rattle.foldtest.proofs.is_linked.Goals as goal

pub shared_count-shared-requires : goal.shared_count-shared-requires
shared_count-shared-requires c = let held = may-count c.requires.fact_1 c.requires.fact_2 in
    record { fact_1 = held.0; fact_2 = held.1.0; fact_3 = held.1.1 }

pub returns-then-shared-lt1 : goal.returns-then-shared-lt1
returns-then-shared-lt1 c =
    record { value = not-linked c.args.fold.remove c.requires.fact_2.gathered c.shared_count-shared.ensures c.if-shared-lt1.true; w_unchanged = refl }

pub common_count-requires : goal.common_count-requires
common_count-requires c = record { fact_1 = c.requires.fact_1; fact_2 = c.requires.fact_2; fact_3 = c.requires.fact_3 }

pub returns : goal.returns
returns c =
    record { value = link-decided c.args.fold.remove c.requires.fact_2.gathered c.shared_count-shared.ensures c.if-shared-lt1.false c.common_count.ensures.value; w_unchanged = c.common_count.ensures.w_unchanged }
