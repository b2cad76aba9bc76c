-- Which way faces run.
pub mod Ways
pub mod WayExamples
pub mod Order
pub mod Seen
pub mod Clauses
