-- The plain walk as code: what a step and the whole walk leave in the memory.
pub mod Steps
pub mod Moments
pub mod Whole
