-- What marking, counting and listing ask and leave, step by step.
pub mod Marking
pub mod Counting
pub mod Rings
pub mod Listing
pub mod Wanting
pub mod Taking
pub mod Kinds
