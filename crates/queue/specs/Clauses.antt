-- What the queue's functions ask and leave.
pub mod Ranks
pub mod Order
pub mod Queued
pub mod Changes
