-- What the program asks of its files.
pub mod Clauses
