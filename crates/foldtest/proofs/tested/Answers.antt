-- `foldtest::tested` meets its contract: the test of numbers, which leaves the memory as it was, and then the test of faces.
-- Assumes nothing.
use Rattle.foldtest.proofs.LinkLaws.{tested-unlinked, tested-by-faces}
use Rattle.foldtest.proofs.tested.Goals as goal

pub is_linked-requires : goal.is_linked-requires
is_linked-requires c = record { fact_1 = c.requires.fact_1; fact_2 = c.requires.fact_3; fact_3 = c.requires.fact_4 }

pub tested_faces-requires : goal.tested_faces-requires
tested_faces-requires c =
    rw c.is_linked.ensures.w_unchanged (record { fact_1 = c.requires.fact_1; fact_2 = c.requires.fact_2; fact_3 = c.requires.fact_3; fact_4 = c.requires.fact_4 })

pub returns : goal.returns
returns c =
    record {
      value = tested-by-faces c.args.extent.v c.args.extent.f c.args.w.now c.args.p.now c.args.fold.keep c.args.fold.remove c.args.fold.place c.is_linked.ensures.value c.if-not-is_linked.false
          c.is_linked.ensures.w_unchanged c.tested_faces.ensures;
      w_unchanged = c.is_linked.ensures.w_unchanged;
    }

pub returns-then-not-is_linked : goal.returns-then-not-is_linked
returns-then-not-is_linked c =
    record { value = tested-unlinked c.args.extent.v c.args.extent.f c.args.w.now c.args.p.now c.args.fold.keep c.args.fold.remove c.args.fold.place c.is_linked.ensures.value c.if-not-is_linked.true; w_unchanged = c.is_linked.ensures.w_unchanged }
