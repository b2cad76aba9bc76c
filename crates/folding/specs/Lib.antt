-- The fold in lent memory.
pub mod Clauses
