-- The open pairs of the plain walk in lent memory.
pub mod State
pub mod Clauses
