-- `queue::take_first` meets its contract: what is thrown out first was old. Assumes nothing.
use Rattle.queue.proofs.PresentLaws.{named-were}
use Rattle.queue.proofs.ThrowLaws.{took-thrown}
use Rattle.queue.proofs.take_first.Goals as goal

pub take_current-requires : goal.take_current-requires
take_current-requires c =
    record { fact_1 = c.throw_out-kept.ensures.queue; fact_2 = named-were c.throw_out-kept.ensures.only c.throw_out-kept.ensures.were c.requires.fact_2 }

pub returns-then-thin : goal.returns-then-thin
returns-then-thin c =
    took-thrown c.take_current.new.w c.take_current.new.p c.take_current.new.q c.take_current.result c.throw_out-kept.ensures c.take_current.ensures
