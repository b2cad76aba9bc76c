-- `walking::walk_by` meets its contract: each walk is handed what it asks, and states what is asked.
-- Assumes nothing.
use Rattle.walking.proofs.WalkedLaws.{plain-room, by-plain, by-heap}
use Rattle.walking.proofs.walk_by.Goals as goal

pub plain_walk-requires : goal.plain_walk-requires
plain_walk-requires c =
    let room = plain-room c.requires in
    record { fact_1 = c.requires.tidy; fact_2 = c.requires.all_live; fact_3 = room.0; fact_4 = room.1 }

pub heap_walk-requires : goal.heap_walk-requires
heap_walk-requires c =
    record { fact_1 = c.requires.tidy; fact_2 = c.requires.all_live; fact_3 = c.requires.places_fit; fact_4 = c.requires.costs_fit }

pub returns-in-Plain : goal.returns-in-Plain
returns-in-Plain c =
    by-plain c.in-Plain.is c.plain_walk.ensures

pub returns-in-Heap : goal.returns-in-Heap
returns-in-Heap c =
    by-heap c.requires c.heap_walk.ensures
