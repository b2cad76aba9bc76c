-- Document 01 as definitions: what a call is given, what it answers, and what it leaves in every lent cell.
pub mod Input
pub mod Answers
pub mod Refusals
pub mod Arithmetic
pub mod Start
pub mod Outcome
pub mod Call
pub mod Examples
