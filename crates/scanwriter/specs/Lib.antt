-- The file that a mesh is written as, and what the writer leaves.
pub mod Written
pub mod Back
pub mod Clauses
pub mod Examples
