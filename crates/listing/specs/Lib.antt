-- The listing, byte for byte.
pub mod Texts
pub mod Written
pub mod Clauses
pub mod Examples
