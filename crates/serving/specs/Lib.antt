-- One order of a call with many, and one order after another.
pub mod Desks
pub mod Clauses
