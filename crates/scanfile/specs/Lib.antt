-- What a file of document 01 is, and what it holds.
pub mod Layout
pub mod Faults
pub mod Scans
pub mod Contents
pub mod Facts
pub mod Told
pub mod Examples
pub mod Files
pub mod Clauses
