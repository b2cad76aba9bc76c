-- `queue::push` meets its contract: room is made, and the entry rises to its place, by the laws of PushLaws. Assumes nothing.
use native.Mathlib.Omega.{arith}
use mathlib.Core.Path.{◌≡◌, ◌∙◌}
use Rattle.queue.specs.Clauses.Changes.{entry_of}
use Rattle.queue.proofs.PushLaws.{entry-only, entry-pushed, entry_kept}
use Rattle.queue.proofs.push.Goals as goal
use Rattle.queue.proofs.push.Goals.{After-entry_of-entry}

-- the entry has the stamps of before
entry-is : (c : After-entry_of-entry) → c.entry_of-entry.result ≡ entry_of c.args.extent.v c.args.extent.f c.args.w.now c.args.fold.keep c.args.fold.remove c.args.cost c.args.fold.place
entry-is c =
    c.entry_of-entry.ensures ∙ entry-only c.args.cost c.args.fold.place c.make_room-count.ensures.fewer.only c.requires.fact_3.0 c.requires.fact_3.1

pub entry_of-entry-requires : goal.entry_of-entry-requires
entry_of-entry-requires c =
    record { fact_1 = c.make_room-count.ensures.fewer.queue.enough.room; fact_2 = c.requires.fact_3 }

pub sift_up-requires : goal.sift_up-requires
sift_up-requires c =
    record { fact_1 = record { enough = c.make_room-count.ensures.fewer.queue.enough; few = omega arith; inside = c.make_room-count.ensures.free }; fact_2 = c.make_room-count.ensures.fewer.queue.ordered }

pub overflow_add-result : goal.overflow_add-result
overflow_add-result c = omega (arith, c.make_room-count.ensures.free, c.requires.fact_1.enough.room.faces_few)

pub returns : goal.returns
returns c =
    let is = entry-is (goal.at.returns c).After-entry_of-entry in
    record { fact_1 = entry-pushed c.requires.fact_2 c.requires.fact_3 c.make_room-count.ensures is c.sift_up.ensures; fact_2 = entry_kept c.requires.fact_2 c.requires.fact_3 c.make_room-count.ensures is c.sift_up.ensures }
