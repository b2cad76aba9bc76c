-- The heap walk: a step and the whole walk, tied to the plain walk.
pub mod Entries
pub mod Clauses
pub mod Steps
pub mod Chain
