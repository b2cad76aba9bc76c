-- What is around a point.
pub mod Clauses
