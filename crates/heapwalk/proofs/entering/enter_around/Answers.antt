-- `heapwalk::entering::enter_around` meets its contract: the points around x are listed, and x is opened with those that it is eligible with.
-- Assumes nothing.
use Rattle.heapwalk.proofs.AroundLaws.{around-few, around-ready, around-entered}
use Rattle.heapwalk.proofs.entering.enter_around.Goals as goal

pub enter_listed-requires : goal.enter_listed-requires
enter_listed-requires c =
    record { fact_1 = around-ready c.requires.fact_1 c.requires.fact_2 c.list_around-count.ensures c.args.bounds.limit c.requires.room; fact_2 = around-few c.requires.fact_1 c.requires.fact_2 c.list_around-count.ensures }

pub returns : goal.returns
returns c =
    around-entered c.requires.fact_1 c.requires.fact_2 c.list_around-count.ensures c.args.bounds.limit c.enter_listed.ensures
