-- The output.
pub mod Clauses
