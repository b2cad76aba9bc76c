-- What laying a mesh out and walking it ask and leave.
pub mod Clauses
