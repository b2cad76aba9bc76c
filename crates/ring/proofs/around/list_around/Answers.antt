-- `ring::around::list_around` meets its contract: the faces are gathered, their points marked, the marks taken off; the laws carry each to the next.
-- Assumes nothing.
use Rattle.mesh.specs.Clauses.Around.{Collected}
use Rattle.memory.specs.Layout.{near_from}
use Rattle.ring.proofs.ListedLaws.{collected-from, gathered-room, gathered-near, marked-near, marked-ready, listed-all}
use Rattle.ring.proofs.around.list_around.Goals as goal
use Rattle.ring.proofs.around.list_around.Goals.{After-collect-count}

-- the faces are gathered where the laws look for them
gathered : (c : After-collect-count) →
    Collected c.args.extent.v c.args.extent.f c.args.w.now c.args.x (near_from c.args.extent.v c.args.extent.f) c.collect-count.new.w c.collect-count.result
gathered c = collected-from c.near_from.ensures c.collect-count.ensures

-- ---- the needs
pub mark_wanted-requires : goal.mark_wanted-requires
mark_wanted-requires c =
    record { fact_1 = gathered-room c.requires.fact_1 (gathered (goal.at.mark_wanted-requires c).After-collect-count); fact_2 = (gathered (goal.at.mark_wanted-requires c).After-collect-count).gathered.few; fact_3 = gathered-near c.requires.fact_1 (gathered (goal.at.mark_wanted-requires c).After-collect-count) }

pub list_marked-requires : goal.list_marked-requires
list_marked-requires c =
    record { fact_1 = marked-ready c.requires.fact_1 (gathered (goal.at.list_marked-requires c).After-collect-count) c.args.which c.mark_wanted.ensures; fact_2 = (gathered (goal.at.list_marked-requires c).After-collect-count).gathered.few; fact_3 = marked-near c.requires.fact_1 (gathered (goal.at.list_marked-requires c).After-collect-count) c.args.which c.mark_wanted.ensures }

pub returns : goal.returns
returns c =
    listed-all c.requires.fact_1 (gathered (goal.at.returns c).After-collect-count) c.args.which c.mark_wanted.ensures c.list_marked.ensures
