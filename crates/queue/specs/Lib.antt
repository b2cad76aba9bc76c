-- The queue of the heap walk in lent memory: entries with stamps, the least on top.
pub mod State
pub mod Stored
pub mod Clauses
